-- A status byte: bit 6 ready, bit 0 failed, bit 7 not protected.
use Rattle.std.specs.Prelude.{ℕ, Bool, cond, not, ◌==◌, bit_and}
use Rattle.flash.specs.declared.status.Verdict.{Verdict}
use Rattle.flash.specs.declared.status.Verdict.TheVariants as verdict

abbrev has : ℕ → ℕ → Bool
has mask status = not (bit_and status mask == 0)

abbrev pub ready : ℕ → Bool
ready s = has 0x40 s

abbrev pub verdict_of : ℕ → Verdict
verdict_of s = cond (has 0x01 s) verdict.Failed (cond (has 0x80 s) verdict.Good verdict.Protected)
