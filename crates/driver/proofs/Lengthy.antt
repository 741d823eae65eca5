-- A read of more than a page is refused alike, whatever its length.
use Rattle.std.proofs.Common.{◌≡◌, ℕ, ◌≤◌, min, List, [], ◌++◌, length, take, drop, Some, None, Option, Ok, Err, Result, sym, refl, ap, ◌∙◌, subst, ⊎_elim, arith}
use Rattle.std.proofs.lemmas.List.{take_at}
use Rattle.std.proofs.lemmas.Bool.{cases_lt}
use Rattle.std.proofs.lemmas.Bool.Decides.{nat_tests}
use Rattle.flash.specs.declared.address.Column.{Column}
use Rattle.flash.specs.declared.fault.Fault.{Fault}
use Rattle.flash.specs.declared.fault.Fault.TheVariants as fault
use Rattle.flash.specs.declared.page.Page.{Page}
use Rattle.port.specs.declared.port.Port.{Ghosts}
use Rattle.record.specs.Judgements.{or_else}
use Rattle.calls.specs.declared.call.Call.TheVariants as call
use Rattle.commands.specs.Sent.{Ran}
use Rattle.driver.specs.Called.{view_of, Called, read_reply}
use Rattle.driver.specs.Outcomes.{Reply, bytes, refused, outcome_at, cycles_at}
use Rattle.driver.specs.Refusals.{state_fault, page_fault, span_fault, refusal}
use Rattle.driver.specs.Views.{View}
use Rattle.driver.specs.declared.session.Session.{Session}

-- what comes after a reason is not looked at
never_reached : (s x : Option Fault) (f : Fault) (y z : Option Fault) → or_else s (or_else (or_else x (Some f)) y) ≡ or_else s (or_else (or_else x (Some f)) z)
never_reached (Some g) x f y z = refl
never_reached None (Some g) f y z = refl
never_reached None None f y z = refl

refuses : (s x : Option Fault) (f : Fault) (y : Option Fault) → (g : Fault) × (or_else s (or_else (or_else x (Some f)) y) ≡ Some g)
refuses (Some g) x f y = (g, refl)
refuses None (Some g) f y = (g, refl)
refuses None None f y = (f, refl)

span_long : (p : Page) (c : Column) (len : ℕ) → 2113 ≤ len → span_fault p c len ≡ Some (fault.NoSuchSpan p)
span_long p c len h = grind (arith, nat_tests, h)

module _ (v : View) (room : ℕ) (p : Page) (c : Column) (len : ℕ) (h : 2113 ≤ len) where
  both_refused : (g : Fault) × (refusal v room (call.Read p c len) 0 ≡ Some g) × (refusal v room (call.Read p c 2113) 0 ≡ Some g)
  unfolding refusal
  both_refused =
      let e : span_fault p c len ≡ Some (fault.NoSuchSpan p) = span_long p c len h in
      let d : span_fault p c 2113 ≡ Some (fault.NoSuchSpan p) = span_long p c 2113 (omega arith) in
      let r = refuses (state_fault v.part v.standing (call.Read p c len)) (page_fault v.part 64 p) (fault.NoSuchSpan p) None in (
        r.0,
        rw e (never_reached (state_fault v.part v.standing (call.Read p c len)) (page_fault v.part 64 p) (fault.NoSuchSpan p) _ None ∙ r.1),
        rw d (never_reached (state_fault v.part v.standing (call.Read p c len)) (page_fault v.part 64 p) (fault.NoSuchSpan p) _ None ∙ r.1),
      )

long_read : {X : Type 0} {q : Ghosts X} (s t : Session X) (a : Reply) (p : Page) (c : Column) (len : ℕ) → 2113 ≤ len → Called q (call.Read p c 2113) [] a s t → Called q (call.Read p c len) [] a s t
long_read {X} {q} s t a p c len h d =
    let w = both_refused (view_of s) (q.meaning s.port).room p c len h in
    record {
      replies = d.replies;
      answers = d.answers ∙ (ap (λ o. (outcome_at o (view_of s) (call.Read p c 2113) d.replies).reply) w.2 ∙ sym (ap (λ o. (outcome_at o (view_of s) (call.Read p c len) d.replies).reply) w.1));
      views = d.views ∙ (ap (λ o. (outcome_at o (view_of s) (call.Read p c 2113) d.replies).view) w.2 ∙ sym (ap (λ o. (outcome_at o (view_of s) (call.Read p c len) d.replies).view) w.1));
      ran = subst (λ cs. Ran q cs s.port t.port) (ap (λ o. cycles_at o (view_of s) (call.Read p c 2113) [] d.replies) w.2 ∙ sym (ap (λ o. cycles_at o (view_of s) (call.Read p c len) [] d.replies) w.1)) d.ran;
    }

-- a read into a buffer that is as long as a read may be
pub read_as : {X : Type 0} {q : Ghosts X} (s t : Session X) (a : Reply) (p : Page) (c : Column) (len n : ℕ) → n ≡ min len 2113 → Called q (call.Read p c n) [] a s t → Called q (call.Read p c len) [] a s t
read_as {X} {q} s t a p c len n e d =
    ⊎_elim
    (λ h. subst (λ x. Called q (call.Read p c x) [] a s t) (let z : n ≡ len = omega arith in z) d)
    (λ h. long_read s t a p c len h (subst (λ x. Called q (call.Read p c x) [] a s t) (let z : n ≡ 2113 = omega arith in z) d))
    (cases_lt len 2113)

-- the whole buffer is what came
pub read_took : {X : Type 0} {q : Ghosts X} (s t : Session X) (p : Page) (c : Column) (len n m : ℕ) (xs items : List ℕ) → n ≡ min len 2113 → length xs ≡ m → Called q (call.Read p c n) [] (bytes xs) s t
    → Called q (call.Read p c len) [] (bytes (take m (xs ++ drop (length xs) items))) s t
read_took {X} {q} s t p c len n m xs items e l d =
    subst (λ ys. Called q (call.Read p c len) [] (bytes ys) s t) (sym (take_at xs (drop (length xs) items) m l)) (read_as s t (bytes xs) p c len n e d)

-- what it answers
pub read_answers : {X : Type 0} {q : Ghosts X} (s t : Session X) (r : Result Unit Fault) (p : Page) (c : Column) (len n m : ℕ) (xs items : List ℕ) → n ≡ min len 2113 → length xs ≡ m → Called q (call.Read p c n) [] (read_reply r xs) s t
    → Called q (call.Read p c len) [] (read_reply r (take m (xs ++ drop (length xs) items))) s t
read_answers s t (Ok u) p c len n m xs items e l d = read_took s t p c len n m xs items e l d
read_answers s t (Err f) p c len n m xs items e l d = read_as s t (refused f) p c len n e d
