use Rattle.std.proofs.Common.{◌-◌, ◌^◌, min, refl, ap, ◌∙◌, arith}
use Rattle.std.proofs.lemmas.Result.{err_from_is_err_and}
use Rattle.calls.specs.Table.{most}
use Rattle.driver.specs.Views.{View}
use Rattle.driver.proofs.Admits.{at_state, at_arguments, at_record_lem, at_port}
use Rattle.driver.proofs.state.State.admit.Goals as goal

pub returns-in_err-admit_state : goal.returns-in_err-admit_state
returns-in_err-admit_state c =
    let q = err_from_is_err_and c.from_residual.result c.from_residual.ensures.1 in
    rw (q.1, q.2) (at_state c.args.self.now _ _ _ c.in_err-admit_state.ensures)

pub returns-in_err-admit_arguments : goal.returns-in_err-admit_arguments
returns-in_err-admit_arguments c =
    let q = err_from_is_err_and c.from_residual-in_err-admit_arguments.result c.from_residual-in_err-admit_arguments.ensures.1 in
    rw (q.1, q.2) (at_arguments c.args.self.now _ _ _ c.in_ok-admit_state.ensures c.in_err-admit_arguments.ensures)

pub returns-in_err-admit_record : goal.returns-in_err-admit_record
returns-in_err-admit_record c =
    let q = err_from_is_err_and c.from_residual-in_err-admit_record.result c.from_residual-in_err-admit_record.ensures.1 in
    rw (q.1, q.2)
    (at_record_lem c.args.self.now _ _ _ c.in_ok-admit_state.ensures c.in_ok-admit_arguments.ensures
    c.in_err-admit_record.ensures)

pub returns : goal.returns
returns c =
    let e = ap (λ (v : View). v.polls) c.self.view_is in
    at_port c.args.self.now _ _ _ c.in_ok-admit_state.ensures c.in_ok-admit_arguments.ensures c.in_ok-admit_record.ensures
    c.args.room c.most_cycles-need.result _ (omega arith) refl
    (c.most_cycles-need.ensures.most ∙ ap (λ (v : View). min (most v.part v.polls c.args.call c.args.count) (2 ^ 64 - 1)) c.self.view_is) c.page_named.ensures c.admit_room.ensures
