-- Bytes laid over a blank page, and what becomes of them when the page is programmed.
use Rattle.std.proofs.Common.{◌≡◌, ℕ, ◌+◌, ◌-◌, ◌*◌, ◌<◌, ◌≤◌, false, cond, List, [], ◌∷◌, ◌++◌, length, get_or, set, sym, ap, ◌∙◌, ⊎_elim, arith}
use lib.Bits.{bit_and}
use Rattle.std.proofs.lemmas.Nat.{and_mask}
use Rattle.std.proofs.lemmas.List.{get_or-set_same, get_or-set_other, get_or-replicate, length-append, get_or_append_left, get_or-append_right}
use Rattle.std.proofs.lemmas.Bool.{cases_eq}
use Rattle.std.proofs.lemmas.Bool.Decides.{nat_tests}
use Rattle.chip.specs.Cells.{cell_at, cell_of, among, anded, blank_page, row_programmed}
use Rattle.chip.specs.Recalls.{span_programmed}
use Rattle.chip.specs.Waits.{Laid}
use Rattle.chip.proofs.Alterations.{altered_alike}

-- no bytes in hand
no_span : (s i : ℕ) → among s 0 i ≡ false
no_span s i = grind (arith, nat_tests)

-- one byte more
module _ (page hand : List ℕ) (s n b : ℕ) (size : length page ≡ 2112) (h : n < 2112) (l : Laid page hand s n) where
  longer : length (hand ++ b ∷ []) ≡ length hand + 1
  longer = length-append hand (b ∷ [])

  lays_at : get_or (set page n b) n 0 ≡ cond (among s (length (hand ++ b ∷ [])) n) (get_or (hand ++ b ∷ []) (n - s) 0) 0xFF
  lays_at = grind (arith, nat_tests, get_or-set_same, get_or-append_right, longer, l.next)

  lays_other : (i : ℕ) → i < 2112 → (i ≡ n → ⊥) → get_or (set page n b) i 0 ≡ cond (among s (length (hand ++ b ∷ [])) i) (get_or (hand ++ b ∷ []) (i - s) 0) 0xFF
  lays_other i m e = grind (arith, nat_tests, get_or-set_other, get_or_append_left, l.bytes, longer, l.next)

  pub lays : Laid (set page n b) (hand ++ b ∷ []) s (n + 1)
  lays = record {
    next = simp length-append (omega (arith, l.next));
    fits = omega arith;
    bytes = λ i m. ⊎_elim (λ e. rw e lays_at) (lays_other i m) (cases_eq i n);
  }

pub lays_none : (s : ℕ) → s ≤ 2112 → Laid blank_page [] s s
lays_none s h = record {
  next = omega arith;
  fits = h;
  bytes = λ i m. get_or-replicate 2112 i 0xFF 0 m ∙ sym (ap (λ t. cond t (get_or {A = ℕ} [] (i - s) 0) 0xFF) (no_span s i));
}

-- a page with bytes laid over it, ANDed into a row, is those bytes ANDed into their span
pub and_blank : (x : ℕ) → x < 256 → bit_and x 0xFF ≡ x
and_blank x h = and_mask x 8 ∙ omega arith

module _ (page hand : List ℕ) (row s n : ℕ) (l : Laid page hand s n) where
  span_at : (i x : ℕ) → x < 256 → anded (2112 * row) 2112 page i x ≡ anded (cell_of row s) (length hand) hand i x
  span_at i x h = grind (arith, nat_tests, and_blank, l.bytes, l.next, l.fits)

pub spans : (page hand cells : List ℕ) (row s n : ℕ) → ((i : ℕ) → cell_at cells i < 256) → Laid page hand s n
    → row_programmed row page cells ≡ span_programmed (cell_of row s) hand cells
spans page hand cells row s n h l =
    altered_alike (anded (2112 * row) 2112 page) (anded (cell_of row s) (length hand) hand) cells 0 (λ k m. span_at page hand row s n l (0 + k) (get_or cells k 0xFF) (h k))
