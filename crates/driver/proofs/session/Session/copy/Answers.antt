use Rattle.std.proofs.Common.{[], Some, refl, ap, ◌∙◌}
use Rattle.std.proofs.lemmas.Result.{err_from_is_err_and}
use Rattle.flash.specs.Addresses.{row_at}
use Rattle.bus.specs.declared.act.Confirm.TheVariants as confirm
use Rattle.commands.specs.Sequences.{copy_read_cycles, copy_cycles}
use Rattle.commands.proofs.Runs.{ran_as, cut_as}
use Rattle.calls.specs.declared.call.Call.TheVariants as call
use Rattle.driver.specs.Outcomes.{copied_by, begun}
use Rattle.driver.specs.Views.{View}
use Rattle.driver.proofs.Calleds.{called_did, passed, enough, did_late, did_ready, page_known, both}
use Rattle.driver.proofs.Follows.{follow_late, follow_cut, follow_sent, copy_whole}
use Rattle.driver.proofs.session.Session.copy.Goals as goal

pub returns-in_err-send_copy_read : goal.returns-in_err-send_copy_read
returns-in_err-send_copy_read g c =
    let q = err_from_is_err_and c.from_residual-in_err-send_copy_read.result c.from_residual-in_err-send_copy_read.ensures.1 in
    let v = c.args.self.now.state in
    let k = passed g.P.Port c.args.self.now (call.Copy c.args.source c.args.destination) [] c.in_ok-admit.ensures in
    let e = page_known v.part c.args.source _ k.arguments c.part_or-part.ensures in
    let xs = copy_read_cycles (Some c.part_or-part.result) v.polls (row_at c.args.source) in
    let t = rw c.polls-polls.ensures at c.in_err-send_copy_read.ensures in
    rw (q.1, q.2) (called_did k (did_late (λ rs o. copied_by v c.args.source c.args.destination o) (enough k) refl (λ rs. refl) (λ rs. c.stand.ensures)
    (follow_late xs (copy_cycles v.part (row_at c.args.destination)) (copy_whole e v.polls (row_at c.args.source) (row_at c.args.destination)) t)))

pub returns-in_err-send_copy_program : goal.returns-in_err-send_copy_program
returns-in_err-send_copy_program g c =
    let v = c.args.self.now.state in
    let k = passed g.P.Port c.args.self.now (call.Copy c.args.source c.args.destination) [] c.in_ok-admit.ensures in
    let e = page_known v.part c.args.source _ k.arguments c.part_or-part.ensures in
    let xs = copy_read_cycles (Some c.part_or-part.result) v.polls (row_at c.args.source) in
    let t = rw c.polls-polls.ensures at c.in_ok-send_copy_read.ensures in
    absurd (follow_cut xs (copy_cycles v.part (row_at c.args.destination)) (copy_whole e v.polls (row_at c.args.source) (row_at c.args.destination)) (enough k) t
    (cut_as (both copy_cycles e c.row.ensures) c.in_err-send_copy_program.ensures.1))

pub returns : goal.returns
returns g c =
    let v = c.args.self.now.state in
    let k = passed g.P.Port c.args.self.now (call.Copy c.args.source c.args.destination) [] c.in_ok-admit.ensures in
    let e = page_known v.part c.args.source _ k.arguments c.part_or-part.ensures in
    let xs = copy_read_cycles (Some c.part_or-part.result) v.polls (row_at c.args.source) in
    let t = rw c.polls-polls.ensures at c.in_ok-send_copy_read.ensures in
    called_did k (did_ready (λ rs o. copied_by v c.args.source c.args.destination o)
    (follow_sent xs (copy_cycles v.part (row_at c.args.destination)) (copy_whole e v.polls (row_at c.args.source) (row_at c.args.destination)) t
    (ran_as (both copy_cycles e c.row.ensures) c.in_ok-send_copy_program.ensures))
    (λ _. c.begin_program-number.ensures.slip)
    (λ _. c.begin_program-number.ensures.state ∙ ap (λ (w : View). (begun confirm.Copy w c.args.destination).view) c.stand.ensures))
