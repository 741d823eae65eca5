-- Cycles that go over the bus one after the other: what is told of them, and the reader after them.
use Rattle.std.proofs.Common.{◌≡◌, ℕ, ◌+◌, ◌≤◌, min, Bool, true, false, List, [], ◌∷◌, ◌++◌, map, sym, refl, ap, ◌∙◌, subst, append_assoc, arith}
use mathlib.Core.List.{foldl-append}
use Rattle.flash.specs.declared.cycle.Cycle.{Cycle}
use Rattle.bus.specs.Acts.{act_of}
use Rattle.bus.specs.Bus.{Reader, done, step, moved, concerns, changed, changed_at, breaches_of, counted}
use Rattle.bus.specs.Breaches.{named, how_many}
use Rattle.bus.specs.States.{blocks_in}
use Rattle.bus.specs.declared.act.Act.{Act}
use Rattle.bus.specs.declared.act.Act.TheVariants as act
use Rattle.bus.specs.declared.breach.Breach.{Breach}
use Rattle.bus.specs.declared.state.BusState.{BusState}
use Rattle.events.specs.Events.{Thing, Telling, broke, happened, hand_after, later, told_at, tells, follow, follows, events}
use Rattle.calls.specs.Deeds.{Deed, deed, deeds}

-- the cycles lead to this reader and this hand, and these deeds are told
pub record Goes (t : Telling) (cs : List Cycle) (r : Reader) (hand : List ℕ) (ds : List Deed) : Type 0 where
  pub count : ℕ
  pub follows : follows t cs ≡ record { reader = r; hand = hand; cycles = count }
  pub tells : deeds (events t cs) ≡ ds

abbrev pub telling : Reader → List ℕ → ℕ → Telling
telling r h n = record { reader = r; hand = h; cycles = n }

-- from any count of cycles
abbrev pub Runs : Reader → List ℕ → List Cycle → Reader → List ℕ → List Deed → Type 0
Runs r h cs s i ds = (n : ℕ) → Goes (telling r h n) cs s i ds

deeds_append : (xs ys : List Thing) → deeds (xs ++ ys) ≡ deeds xs ++ deeds ys
deeds_append [] ys = refl
deeds_append (x ∷ xs) ys = ap (λ ds. deed x ++ ds) (deeds_append xs ys) ∙ sym (append_assoc (deed x) (deeds xs) (deeds ys))

events_append : (t : Telling) (cs es : List Cycle) → events t (cs ++ es) ≡ events t cs ++ events (follows t cs) es
events_append t [] es = refl
events_append t (c ∷ cs) es =
    ap (λ xs. tells t c ++ xs) (events_append (follow t c) cs es)
    ∙ sym (append_assoc (tells t c) (events (follow t c) cs) (events (follows (follow t c) cs) es))

pub runs_none : (r : Reader) (h : List ℕ) → Runs r h [] r h []
runs_none r h n = record { count = n; follows = refl; tells = refl }

pub runs_then : {r s q : Reader} {h i j : List ℕ} {cs es : List Cycle} {ds fs : List Deed}
    → Runs r h cs s i ds → Runs s i es q j fs → Runs r h (cs ++ es) q j (ds ++ fs)
runs_then {r} {s} {q} {h} {i} {j} {cs} {es} {ds} {fs} x y n =
    let a = x n in
    let b = y a.count in
    record {
      count = b.count;
      follows = foldl-append follow (telling r h n) cs es ∙ (ap (λ t. follows t es) a.follows ∙ b.follows);
      tells = ap deeds (events_append (telling r h n) cs es)
          ∙ (deeds_append (events (telling r h n) cs) (events (follows (telling r h n) cs) es)
          ∙ (ap (λ xs. xs ++ deeds (events (follows (telling r h n) cs) es)) a.tells
          ∙ ap (λ xs. ds ++ xs) (ap (λ t. deeds (events t es)) a.follows ∙ b.tells)));
    }

pub runs_to : {r s q : Reader} {h i : List ℕ} {cs : List Cycle} {ds : List Deed} → s ≡ q → Runs r h cs s i ds → Runs r h cs q i ds
runs_to {r} {s} {q} {h} {i} {cs} {ds} e x = subst (λ z. Runs r h cs z i ds) e x

-- the breaches of a cycle are no deeds
no_deeds : (n : ℕ) (xs : List Breach) (ys : List Thing) → deeds (map (broke n) xs ++ ys) ≡ deeds ys
no_deeds n [] ys = refl
no_deeds n (x ∷ xs) ys = no_deeds n xs ys

any_count : (n : ℕ) (a : Act) (h : List ℕ) → deeds (happened n a h ++ []) ≡ deeds (happened 0 a h)
any_count n act.WhileBusy h = refl
any_count n act.OutOfPlace h = refl
any_count n act.Reset h = refl
any_count n (act.Prepare p g) h = refl
any_count n (act.Status b) h = refl
any_count n (act.Identify bs) h = refl
any_count n (act.Read x) h = refl
any_count n (act.Data w c b) h = refl
any_count n (act.Erase w) h = refl
any_count n (act.Load w s c b) h = refl
any_count n (act.Program w c f) h = refl

-- one cycle
pub runs_one : (r : Reader) (h : List ℕ) (c : Cycle) (a : Act) → act_of r.bus c ≡ a → Runs r h (c ∷ []) (done r a) (hand_after a h) (deeds (happened 0 a h))
unfolding step tells follow
runs_one r h c a e n = record {
  count = later n;
  follows = rw e refl;
  tells = ap (λ x. deeds (told_at (later n) r x h ++ [])) e
      ∙ (ap deeds (append_assoc (map (broke (later n)) (named (breaches_of r a))) (happened (later n) a h) [])
      ∙ (no_deeds (later n) (named (breaches_of r a)) (happened (later n) a h ++ []) ∙ any_count (later n) a h));
}

-- acts that break no rule
abbrev pub plain : Act → Bool
plain act.WhileBusy = false
plain act.OutOfPlace = false
plain act.Reset = true
plain (act.Prepare p g) = true
plain (act.Status b) = true
plain (act.Identify bs) = true
plain (act.Read x) = true
plain (act.Data w c b) = true
plain (act.Erase w) = false
plain (act.Load w s c b) = true
plain (act.Program w c f) = false

-- their effect, the count left as it was
abbrev pub plainly : Reader → Act → Reader
plainly r a = record { bus = moved r.bus a; blocks = changed_at (blocks_in r.bus.part) (concerns r.bus a) (changed r.bus a) r.blocks }

within : (m : ℕ) → m ≤ 65535 → min 65535 (m + 0) ≡ m
within m h = omega arith

count_kept : (u : BusState) → u.breaches ≤ 65535 → counted u 0 ≡ u
count_kept u h =
    ap (λ m. record { part = u.part; phase = u.phase; busy = u.busy; register = u.register; chain = u.chain; breaches = m }) (within u.breaches h)

breaches_stay : (u : BusState) (a : Act) → (moved u a).breaches ≡ u.breaches
breaches_stay u a = grind arith

none_broken : (r : Reader) (a : Act) → plain a ≡ true → how_many (breaches_of r a) ≡ 0
none_broken r a e = grind arith

pub done_plain : (r : Reader) (a : Act) → plain a ≡ true → r.bus.breaches ≤ 65535 → done r a ≡ plainly r a
done_plain r a e h =
    let ks = changed_at (blocks_in r.bus.part) (concerns r.bus a) (changed r.bus a) r.blocks in
    ap (λ k. record { bus = counted (moved r.bus a) k; blocks = ks }) (none_broken r a e)
    ∙ ap (λ u. record { bus = u; blocks = ks }) (count_kept (moved r.bus a) (omega (arith, breaches_stay r.bus a)))

pub runs_plain : (r : Reader) (h : List ℕ) (c : Cycle) (a : Act) → plain a ≡ true → r.bus.breaches ≤ 65535 → act_of r.bus c ≡ a
    → Runs r h (c ∷ []) (plainly r a) (hand_after a h) (deeds (happened 0 a h))
runs_plain r h c a e m i = runs_to (done_plain r a e m) (runs_one r h c a i)
