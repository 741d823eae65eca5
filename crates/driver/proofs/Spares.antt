-- A refusal before the chip takes no slip.
use Rattle.std.proofs.Common.{◌≡◌, ℕ, ◌<◌, false, ◌||◌, eqb, Err, sym, ap, arith}
use Rattle.flash.specs.Faults.{number_of}
use Rattle.flash.specs.declared.fault.Fault.{Fault}
use Rattle.record.specs.Judgements.{admitted}
use Rattle.calls.specs.declared.call.Call.{Call}
use Rattle.driver.specs.Views.{View}
use Rattle.driver.specs.Refusals.{refusal}
use Rattle.driver.specs.Outcomes.{refused}
use Rattle.driver.specs.Called.{settle_takes, abandon_takes, spent_if}
use Rattle.driver.proofs.Admits.{refused_is}
use Rattle.driver.proofs.Reasons.{of_reason, refusal_within}

module _ (v : View) (room : ℕ) (c : Call) (z : ℕ) where
  early : {f : Fault} → Err f ≡ admitted (refusal v room c z) → number_of f < 14
  early e = omega (arith, (of_reason 1 13 (refusal_within v room c z) (refused_is (refusal v room c z) e)).1)

  pub settle_spared : (n : ℕ) {f : Fault} → Err f ≡ admitted (refusal v room c z) → n ≡ spent_if (settle_takes (refused f)) n
  settle_spared n {f} e =
      let h = early e in
      let q : (eqb (number_of f) 16 || eqb (number_of f) 17) ≡ false = grind arith in
      ap (λ b. spent_if b n) (sym q)

  pub abandon_spared : (n : ℕ) {f : Fault} → Err f ≡ admitted (refusal v room c z) → n ≡ spent_if (abandon_takes (refused f)) n
  abandon_spared n {f} e =
      let h = early e in
      let q : eqb (number_of f) 14 ≡ false = grind arith in
      ap (λ b. spent_if b n) (sym q)
