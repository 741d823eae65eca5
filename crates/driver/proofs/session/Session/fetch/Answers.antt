use Rattle.std.proofs.Common.{length, Some, ap, ◌∙◌}
use Rattle.flash.specs.Addresses.{row_at}
use Rattle.commands.specs.Polls.{left, first_of}
use Rattle.commands.specs.Sequences.{read_cycles}
use Rattle.calls.specs.Afters.{noted}
use Rattle.driver.specs.Marks.{mark_in, mark_found}
use Rattle.driver.specs.Outcomes.{leaving, bytes, read_by}
use Rattle.driver.specs.declared.standing.Standing.TheVariants as standing
use Rattle.driver.proofs.Calleds.{did_ready}
use Rattle.driver.proofs.Follows.{went_as}
use Rattle.driver.proofs.Marks.{mark_noted, mark_kept}
use Rattle.driver.proofs.session.Session.fetch.Goals as goal

pub returns-clause-did : goal.returns-clause-did
returns-clause-did g c =
    let v = c.args.self.now.state in
    let page = c.args.page in
    let column = c.args.column.number in
    let len = length c.args.buffer.now in
    let buf = c.send_read.new.buffer in
    let e = ap Some c.part_or-part.ensures ∙ c.requires.known in
    let t = rw c.polls-polls.ensures at c.in_ok-send_read.ensures.did in
    let w = went_as (λ rs. ap (λ o. read_cycles o v.polls (row_at page) c.args.column len rs) e) t in
    let seen = ap (λ x. mark_found v.part page x v.blocks) (c.mark_in.ensures ∙ ap (λ n. mark_in n buf) c.number.ensures) ∙ mark_noted v.part page c.requires.inside column buf v.blocks in
    let stood = mark_kept v page c.mark_in.result c.stand.ensures c.note_mark.ensures c.stand-2.ensures in
    did_ready (λ rs o. read_by v page c.args.column (first_of len (left v.polls rs)) o) w (λ _. ap bytes w.gives)
    (λ _. stood ∙ ap (λ xs. leaving v xs standing.Ready) (seen ∙ ap (λ bs. noted v.part (row_at page) column bs v.blocks) w.gives))
