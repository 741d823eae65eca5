use Rattle.std.proofs.Common.{◌≡◌, ℕ, zero, suc, ◌+◌, ◌*◌, ◌<◌, ◌≤◌, ⊎_elim, List, get_or, sym, refl, ap, ◌∙◌, subst, arith, rules}
use Rattle.std.proofs.lemmas.List.{ext_get_or}
use Rattle.std.proofs.lemmas.Bool.{cases_lt}
use Rattle.std.specs.Array.{IsFromFnResultFrom}
use Rattle.std.specs.Fn.{Called, Mut}
use Rattle.chip.specs.Cells.{cell_at, row_held}
use Rattle.chip.proofs.Alterations.{row_cell, row_length}
use Rattle.chip.proofs.cells.read_row.Goals as goal

each_gives : {F : Type 0} (g : Mut F (ℕ × Unit {0}) ℕ) (h : ℕ → ℕ) (P : F → Type 0) (f : F) (ys : List ℕ) (i n : ℕ)
    → ((p : F) (j y : ℕ) (q : F) → P p → Called g p (j, tt) y q → P q × (y ≡ h j)) → P f
    → IsFromFnResultFrom g f ys i n → (k : ℕ) → i ≤ k → k < i + n → get_or ys k 0 ≡ h k
each_gives g h P f ys i zero calls s e k l m = absurd (omega arith)
each_gives g h P f ys i (suc n) calls s (q, y, at, call, rest) k l m =
    let d = calls f i y q s call in
    ⊎_elim (λ t. each_gives g h P q ys (i + 1) n calls d.0 rest k (omega arith) (omega arith))
    (λ t. let same : i ≡ k = omega arith in subst (λ z. get_or ys z 0 ≡ h z) same (at.1 0 ∙ d.1))
    (cases_lt i k)

pub returns : goal.returns
returns c =
    ext_get_or 0 c.from_fn.result (row_held c.number.result c.args.cells.now)
    (c.from_fn.ensures.items.long ∙ sym (row_length (2112 * c.number.result) c.args.cells.now))
    (λ k h. each_gives _ (λ j. cell_at c.args.cells.now (2112 * c.number.result + j)) (λ p. (p.0.now ≡ c.args.cells.now) × (p.1.now ≡ 2112 * c.number.result)) _ c.from_fn.result 0 2112
    (λ p j y q s call. search rules) (refl, refl) c.from_fn.ensures.items.each k (omega arith) (omega arith)
    ∙ sym (row_cell (2112 * c.number.result) c.args.cells.now k 0 (omega arith)))
    ∙ ap (λ n. row_held n c.args.cells.now) c.number.ensures
