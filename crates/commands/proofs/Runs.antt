-- What went over a port, put together.
use Rattle.std.proofs.Common.{◌≡◌, ℕ, suc, ◌+◌, ◌<◌, ◌≤◌, List, [], ◌∷◌, ◌++◌, map, length, take, None, Ok, Err, Option, Result, MatchResult, IsErrAnd, sym, ap, ◌∙◌, subst, inl, inr, ⊎_elim, append-nil, arith, length-append}
use Rattle.std.proofs.lemmas.List.{take-append-le, take-map, length-map, length-take-le}
use Rattle.std.proofs.lemmas.Result.{MatchResult-weaker}
use Rattle.flash.specs.declared.cycle.Cycle.{Cycle}
use Rattle.flash.specs.declared.fault.Fault.{Fault}
use Rattle.flash.specs.declared.fault.Fault.TheVariants.{NoRoom, Timeout}
use Rattle.flash.specs.declared.page.Page.{Page}
use Rattle.port.specs.Meanings.{Meaning, Took, Stepped, Refused, gave}
use Rattle.port.specs.declared.port.Port.{Ghosts}
use Rattle.port.proofs.Took.{took_none, took_one, took_append}
use Rattle.commands.specs.Polls.{polled, first_of}
use Rattle.commands.proofs.Polls.{first_all}
use Rattle.commands.specs.Sent.{Ran, Cut, Sent, Short, TimedOut, Stopped}

take_past : {A : Type 0} (xs ys : List A) (n : ℕ) → take (length xs + n) (xs ++ ys) ≡ xs ++ take n ys
take_past [] ys n = ap (λ k. take k ys) (omega arith)
take_past (x ∷ xs) ys n =
    ap (λ k. take k (x ∷ xs ++ ys)) (let e : suc (length xs) + n ≡ suc (length xs + n) = omega arith in e)
    ∙ ap (λ zs. x ∷ zs) (take_past xs ys n)

-- an error that `?` passes on
pub passed_on : {T E : Type 0} (r : Result T E) (f : E) (P : T → Type 0) (Q : E → Type 0) → IsErrAnd r (λ e. e ≡ f) → Q f → MatchResult r P Q
passed_on (Ok v) f P Q h q = absurd h
passed_on (Err e) f P Q h q = subst Q (sym h) q

module _ {X : Type 0} {p : Ghosts X} where
  pub ran_none : (a : X) → Ran p [] a a
  ran_none a = record { took = took_none (p.meaning a) }

  pub ran_step : {c : Cycle} {a b : X} → Stepped p.moves c (p.meaning a) (p.meaning b) → Ran p (c ∷ []) a b
  ran_step s = record { took = took_one s }

  pub ran_append : {xs ys : List Cycle} {a b d : X} → Ran p xs a b → Ran p ys b d → Ran p (xs ++ ys) a d
  ran_append s t = record { took = took_append s.took t.took }

  pub ran_as : {cs ds : List Cycle} {a b : X} → cs ≡ ds → Ran p cs a b → Ran p ds a b
  ran_as {cs} {ds} {a} {b} e s = subst (λ zs. Ran p zs a b) e s

  pub cut_as : {cs ds : List Cycle} {a b : X} → cs ≡ ds → Cut p cs a b → Cut p ds a b
  cut_as {cs} {ds} {a} {b} e s = subst (λ zs. Cut p zs a b) e s

  ran_refused : {cs : List Cycle} {a b d : X} → Ran p cs a b → Refused (p.meaning b) (p.meaning d) → Ran p cs a d
  ran_refused {cs} {a} s r = record { took = let P : Meaning → Type 0 = λ m. Took p.moves cs (p.meaning a) m in subst P (sym r.same) s.took }

  -- a refusal before the first of some cycles
  pub cut_refused : {c : Cycle} {cs : List Cycle} {a b : X} → Refused (p.meaning a) (p.meaning b) → Cut p (c ∷ cs) a b
  cut_refused {c} {cs} {a} {b} r = record {
    short = omega (arith, r.empty);
    count = 0;
    fewer = omega arith;
    ran = ran_refused (ran_none a) r;
    full = ap (λ m. m.room) r.same ∙ r.empty;
  }

  -- cut in the first part, or in the second
  pub cut_here : {xs : List Cycle} {a b : X} (ys : List Cycle) → Cut p xs a b → Cut p (xs ++ ys) a b
  cut_here {xs} {a} {b} ys s =
      let l : s.count ≤ length xs = omega (arith, s.fewer) in
      record {
        short = simp length-append (omega (arith, s.short));
        count = s.count;
        fewer = simp length-append (omega (arith, s.fewer));
        ran = ran_as (sym (take-append-le s.count xs ys l)) s.ran;
        full = s.full;
      }

  pub cut_later : {xs ys : List Cycle} {a b d : X} → Ran p xs a b → Cut p ys b d → Cut p (xs ++ ys) a d
  cut_later {xs} {ys} {a} {b} {d} r s = record {
    short = simp length-append (omega (arith, s.short, r.took.least));
    count = length xs + s.count;
    fewer = simp length-append (omega (arith, s.fewer));
    ran = ran_as (sym (take_past xs ys s.count)) (ran_append r s.ran);
    full = s.full;
  }

  -- a sequence without replies, after other cycles
  pub sent_after : {T : Type 0} {xs : List Cycle} {a b : X} (ys : List Cycle) (d : X) (r : Result T Fault) → Ran p xs a b → Sent p ys r b d → Sent p (xs ++ ys) r a d
  sent_after ys d r t s = MatchResult-weaker r s (λ v u. ran_append t u) (λ f u. (u.0, cut_later t u.1))

  -- a loop that sends what f makes of each element of xs, or fills xs with what comes, and is refused
  module _ (f : ℕ → Cycle) (xs : List ℕ) (i : ℕ) where
    pub ran_cut : {a b d : X} → i < length xs → Ran p (map f (take i xs)) a b → Refused (p.meaning b) (p.meaning d) → Cut p (map f xs) a d
    ran_cut {a} {b} {d} h s r = record {
      short = simp length-map (omega (arith, r.empty, simp length-map at s.took.least, length_taken));
      count = i;
      fewer = simp length-map h;
      ran = rw (← take-map f i xs) at (ran_refused s r);
      full = ap (λ m. m.room) r.same ∙ r.empty;
    }
      where
        length_taken : length (take i xs) ≡ i
        length_taken = length-take-le i xs (omega arith)

  -- bytes that came before the room ran out, and those that would have come
  pub short_of : (n : ℕ) (bs : List ℕ) {a b : X} → length bs ≡ n → Cut p (map gave bs) a b → Short p (λ rs. map gave (first_of n rs)) a b
  short_of n bs {a} {b} h s = record { replies = bs; cut = cut_as (ap (map gave) (sym (first_all n bs h))) s }

  pub short_after : {cs : List ℕ → List Cycle} {xs : List Cycle} {a b d : X} → Ran p xs a b → Short p cs b d → Short p (λ rs. xs ++ cs rs) a d
  short_after r s = record { replies = s.replies; cut = cut_later r s.cut }

  pub short_here : {xs : List Cycle} {a b : X} (cs : List ℕ → List Cycle) → Cut p xs a b → Short p (λ rs. xs ++ cs rs) a b
  short_here cs s = record { replies = []; cut = cut_here (cs []) s }

  pub stopped_here : {n : ℕ} {at : Option Page} {f : Fault} {xs : List Cycle} {a b : X} (cs : List ℕ → List Cycle) → (f ≡ NoRoom None) × Cut p xs a b → Stopped p n at (λ rs. xs ++ cs rs) f a b
  stopped_here cs t = inr (t.0, short_here cs t.1)

  -- a sequence with a poll, after other cycles, or before others that follow only a ready chip
  module _ {n : ℕ} {cs : List ℕ → List Cycle} where
    pub stopped_after : {at : Option Page} {f : Fault} {xs : List Cycle} {a b d : X} → Ran p xs a b → Stopped p n at cs f b d → Stopped p n at (λ rs. xs ++ cs rs) f a d
    stopped_after r s =
        ⊎_elim
        (λ t. inl (t.0, record { replies = t.1.replies; never = t.1.never; all = t.1.all; busy = t.1.busy; ran = ran_append r t.1.ran }))
        (λ t. inr (t.0, short_after r t.1)) s

    pub stopped_before : {at : Option Page} {f : Fault} {a b : X} (ds : List ℕ → List Cycle) → ((rs : List ℕ) → polled n rs ≡ None → ds rs ≡ [])
        → Stopped p n at cs f a b → Stopped p n at (λ rs. cs rs ++ ds rs) f a b
    stopped_before {at} {f} {a} {b} ds none s =
        ⊎_elim
        (λ t. inl (t.0, record { replies = t.1.replies; never = t.1.never; all = t.1.all; busy = t.1.busy; ran = ran_as (sym (ends t)) t.1.ran }))
        (λ t. inr (t.0, record { replies = t.1.replies; cut = cut_here (ds t.1.replies) t.1.cut })) s
      where
        ends : (t : (f ≡ Timeout at) × TimedOut p n cs a b) → cs t.1.replies ++ ds t.1.replies ≡ cs t.1.replies
        ends t = ap (λ zs. cs t.1.replies ++ zs) (none t.1.replies t.1.never) ∙ append-nil (cs t.1.replies)
