-- Refusals, one place after another.
use Rattle.std.proofs.Common.{◌≡◌, ℕ, ◌+◌, ◌-◌, ◌^◌, ◌<◌, ◌≤◌, min, Bool, true, false, cond, ◌&&◌, ltb, leb, Some, None, Ok, Err, Option, Result, sym, refl, ap, ◌∙◌, arith}
use Rattle.flash.specs.declared.address.Column.{Column}
use Rattle.flash.specs.declared.fault.Fault.{Fault}
use Rattle.flash.specs.declared.fault.Fault.TheVariants as fault
use Rattle.flash.specs.declared.page.Page.{Page}
use Rattle.flash.specs.declared.part.Part.{Part}
use Rattle.flash.specs.declared.part.Part.TheVariants.{OneGbit, TwoGbit}
use Rattle.record.specs.Judgements.{admitted, or_else}
use Rattle.calls.specs.Table.{row_count, chain_page, most}
use Rattle.calls.specs.declared.call.Call.{Call}
use Rattle.calls.specs.declared.call.Call.TheVariants as call
use Rattle.driver.specs.Views.{View}
use Rattle.driver.specs.Refusals.{page_fault, span_fault, page_span_fault, state_fault, argument_fault, record_fault, page_named, port_fault, refusal}

ok_err : {f : Fault} {u : Unit} → ◌≡◌ {A = Result Unit Fault} (Ok u) (Err f) → ⊥
ok_err e = let z : ◌≡◌ {A = ℕ} 0 1 = cc in omega arith

some_none : {f : Fault} → ◌≡◌ {A = Option Fault} (Some f) None → ⊥
some_none e = let z : ◌≡◌ {A = ℕ} 0 1 = cc in omega arith

pub refused_is : (o : Option Fault) {f : Fault} → Err f ≡ admitted o → o ≡ Some f
refused_is None e = absurd (ok_err (sym e))
refused_is (Some g) e = cc

pub admitted_is : (o : Option Fault) {u : Unit} → Ok u ≡ admitted o → o ≡ None
admitted_is None e = refl
admitted_is (Some g) e = absurd (ok_err e)

stops : (x y : Option Fault) {f : Fault} → Err f ≡ admitted x → Err f ≡ admitted (or_else x y)
stops None y e = absurd (ok_err (sym e))
stops (Some g) y e = e

goes_on : (x y : Option Fault) {u : Unit} → Ok u ≡ admitted x → admitted (or_else x y) ≡ admitted y
goes_on None y e = refl
goes_on (Some g) y e = absurd (ok_err e)

pub or_none : (x y : Option Fault) → or_else x y ≡ None → (x ≡ None) × (y ≡ None)
or_none None y e = (refl, e)
or_none (Some f) y e = absurd (some_none e)

pub unless_none : (b : Bool) (f : Fault) → cond b None (Some f) ≡ None → b ≡ true
unless_none true f e = refl
unless_none false f e = absurd (some_none e)

-- ## Room

rows_few : (o : Option Part) → row_count o ≤ 3
rows_few None = omega arith
rows_few (Some OneGbit) = omega arith
rows_few (Some TwoGbit) = omega arith

short_span : (o : Option Part) (p : Page) (c : Column) (z : ℕ) → page_span_fault o p c z ≡ None → z ≤ 2112
short_span o p c z e =
    let b : (ltb 0 z && leb (c.number + z) 2112) ≡ true = unless_none _ (fault.NoSuchSpan p) (or_none (page_fault o 64 p) (span_fault p c z) e).1 in
    grind arith

module _ (o : Option Part) (n : ℕ) (h : n < 65536) where
  -- what a call with good arguments puts at most is counted in a usize
  most_fits : (c : Call) (z : ℕ) → argument_fault o c z ≡ None → most o n c z < 2 ^ 64
  most_fits call.Identify z e = omega arith
  most_fits (call.Look p) z e = omega (arith, rows_few o)
  most_fits call.Close z e = omega arith
  most_fits (call.Read p c len) z e = omega (arith, rows_few o, short_span o p c len e)
  most_fits (call.Erase b) z e = omega (arith, rows_few o)
  most_fits (call.Program p c) z e = omega (arith, rows_few o, short_span o p c z e)
  most_fits (call.CacheFirst p c) z e = omega (arith, rows_few o, short_span o p c z e)
  most_fits (call.CacheNext s g c) z e = omega (arith, rows_few o, short_span o (chain_page s g) c z e)
  most_fits (call.CacheLast s g c) z e = omega (arith, rows_few o, short_span o (chain_page s g) c z e)
  most_fits (call.Copy p q) z e = omega (arith, rows_few o)
  most_fits (call.Settle s) z e = omega arith
  most_fits (call.Abandon s) z e = omega arith
  most_fits call.Reset z e = omega arith
  most_fits (call.Pick b) z e = omega arith
  most_fits (call.Record b) z e = omega arith

least : (m : ℕ) → m < 2 ^ 64 → min m (2 ^ 64 - 1) ≡ m
least m h = omega arith

-- ## Places

module _ (v : View) (room : ℕ) (c : Call) (z : ℕ) where
  pub at_state : {f : Fault} → Err f ≡ admitted (state_fault v.part v.standing c) → Err f ≡ admitted (refusal v room c z)
  unfolding refusal
  at_state e = stops (state_fault v.part v.standing c) _ e

  module _ {u : Unit} (s : Ok u ≡ admitted (state_fault v.part v.standing c)) where
    pub at_arguments : {f : Fault} → Err f ≡ admitted (argument_fault v.part c z) → Err f ≡ admitted (refusal v room c z)
    unfolding refusal
    at_arguments e = stops (argument_fault v.part c z) _ e ∙ sym (goes_on (state_fault v.part v.standing c) _ s)

    module _ {w : Unit} (a : Ok w ≡ admitted (argument_fault v.part c z)) where
      pub at_record_lem : {f : Fault} → Err f ≡ admitted (record_fault v.part v.blocks c) → Err f ≡ admitted (refusal v room c z)
      unfolding refusal
      at_record_lem e =
          stops (record_fault v.part v.blocks c) _ e
          ∙ sym (goes_on (state_fault v.part v.standing c) _ s ∙ goes_on (argument_fault v.part c z) _ a)

      module _ {x : Unit} (k : Ok x ≡ admitted (record_fault v.part v.blocks c)) where
        pub at_port : (y need : ℕ) (p : Option Page) {r : Result Unit Fault} → v.polls < 65536 → y ≡ room → need ≡ min (most v.part v.polls c z) (2 ^ 64 - 1) → p ≡ page_named c
            → r ≡ admitted (port_fault y need p) → r ≡ admitted (refusal v room c z)
        unfolding refusal
        at_port y need p h i j l e =
            let m = least (most v.part v.polls c z) (most_fits v.part v.polls h c z (admitted_is _ a)) in
            e ∙ ap (λ t. admitted (port_fault t need p)) i ∙ ap (λ t. admitted (port_fault room t p)) (j ∙ m) ∙ ap (λ t. admitted (port_fault room (most v.part v.polls c z) t)) l
            ∙ sym (goes_on (state_fault v.part v.standing c) _ s ∙ goes_on (argument_fault v.part c z) _ a ∙ goes_on (record_fault v.part v.blocks c) _ k)

-- ## What is known of a call that was let through

has_room : (room need : ℕ) (p : Option Page) (q : Bool) → ltb room need ≡ q → cond q (Some (fault.NoRoom p)) None ≡ None → need ≤ room
has_room room need p true e n = absurd (some_none n)
has_room room need p false e n = grind arith

pub let_through : (v : View) (room : ℕ) (c : Call) (z : ℕ) {u : Unit} → Ok u ≡ admitted (refusal v room c z)
    → (refusal v room c z ≡ None) × (argument_fault v.part c z ≡ None) × (most v.part v.polls c z ≤ room)
unfolding refusal
let_through v room c z e =
    let s = or_none (state_fault v.part v.standing c) _ (admitted_is _ e) in
    let a = or_none (argument_fault v.part c z) _ s.1 in
    let k = or_none (record_fault v.part v.blocks c) _ a.1 in
    (admitted_is _ e, a.0, has_room room _ (page_named c) (ltb room (most v.part v.polls c z)) refl k.1)

pub pick_free : (v : View) (room b : ℕ) → refusal v room (call.Pick b) 0 ≡ None
unfolding refusal
pick_free v room b = let e : ltb room 0 ≡ false = grind arith in simp e
