use Rattle.std.proofs.Common.{◌≡◌, ◌-◌, ◌*◌, length, refl, ap, ◌∙◌, arith}
use Rattle.std.proofs.lemmas.List.{get_or-take, get_or-drop}
use Rattle.std.proofs.lemmas.Bool.Decides.{nat_tests}
use borrow.Rule.Slice.PartMut.{mid_len}
use Rattle.chip.specs.Cells.{anded, row_programmed}
use Rattle.chip.proofs.Alterations.{altered_span}
use Rattle.chip.proofs.cells.program_row.Goals as goal

pub returns : goal.returns
returns c =
    let base = 2112 * c.number.result in
    let start = c.span-row.result.start in
    let stop = c.span-row.result.end in
    let part = mid_len start stop c.args.cells.now (omega (arith, c.span-row.ensures.end)) in
    let long : length c.loop-column.cell-items ≡ stop - start = c.loop-column.auto.cell-items ∙ part in
    altered_span (anded base 2112 c.args.page.now) base 2112 c.args.cells.now c.loop-column.cell-items _ _ c.span-row.ensures.start c.span-row.ensures.end
    (λ i x e. rw e refl)
    long
    (λ j h. grind (arith, nat_tests, get_or-take, get_or-drop, c.loop-column.invariant.done, c.span-row.ensures.start, c.span-row.ensures.end, c.loop-column-test.false, part, long))
    ∙ ap (λ n. row_programmed n c.args.page.now c.args.cells.now) c.number.ensures
