-- Numbers as bytes, over the number of bytes.
use Rattle.std.proofs.Common.{◌≡◌, ℕ, zero, suc, ◌+◌, ◌-◌, ◌*◌, ◌/◌, ◌%◌, ◌^◌, ◌<◌, List, ◌∷◌, ◌++◌, length, take, set, ap, ◌∙◌, arith}
use native.Mathlib.Nat.{pow-succ'}
use Rattle.std.proofs.lemmas.Grind.{common_steps}
use Rattle.flash.specs.Addresses.{low_bytes, number}

-- the next byte, and the bytes that are left
low_bytes_step : (n i w : ℕ) → i < n → low_bytes (n - i) w ≡ (w % 256) ∷ low_bytes (n - (i + 1)) (w / 256)
low_bytes_step n i w h = ap (λ m. low_bytes m w) (let e : n - i ≡ suc (n - (i + 1)) = omega arith in e)

-- one byte more is written, one fewer is left
pub bytes_more : (n i w : ℕ) (xs : List ℕ) → i < n → length xs ≡ n
    → take (i + 1) (set xs i (w % 256)) ++ low_bytes (n - (i + 1)) (w / 256) ≡ take i xs ++ low_bytes (n - i) w
bytes_more n i w xs h l = grind (arith, common_steps, low_bytes_step n i w h)

-- whatever the number of bytes: from them the number comes back
pub comes_back : (n w : ℕ) → w < 256 ^ n → number (low_bytes n w) ≡ w
comes_back zero w h = omega arith
comes_back (suc n) w h =
    let less : w / 256 < 256 ^ n = omega (arith, pow-succ' 256 n) in
    ap (λ m. w % 256 + 256 * m) (comes_back n (w / 256) less) ∙ omega arith
