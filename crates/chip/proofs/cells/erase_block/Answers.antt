use Rattle.std.proofs.Common.{◌≡◌, ◌-◌, ◌*◌, length, replicate, refl, ap, ◌∙◌, arith}
use Rattle.std.proofs.lemmas.List.{get_or-replicate}
use Rattle.std.proofs.lemmas.Bool.Decides.{nat_tests}
use borrow.Rule.Slice.PartMut.{mid_len}
use Rattle.chip.specs.Cells.{blanked}
use Rattle.chip.proofs.Alterations.{altered_span}
use Rattle.chip.proofs.cells.erase_block.Goals as goal

pub returns : goal.returns
returns c =
    let base = 135168 * c.args.block in
    let n = c.span-block.result.end - c.span-block.result.start in
    let part = mid_len c.span-block.result.start c.span-block.result.end c.args.cells.now (omega (arith, c.span-block.ensures.end)) in
    let long : length c.fill.new.self ≡ n = c.fill.ensures.len ∙ part in
    let blank : c.fill.new.self ≡ replicate n 255 = c.fill.ensures.after (λ y e. e) ∙ ap (λ m. replicate m 255) part in
    altered_span (blanked base 135168) base 135168 c.args.cells.now c.fill.new.self _ _ c.span-block.ensures.start c.span-block.ensures.end
    (λ i x e. rw e refl)
    long
    (λ j h. grind (arith, nat_tests, get_or-replicate, blank, long, c.span-block.ensures.start, c.span-block.ensures.end))
