use Rattle.std.proofs.Common.{[]}
use Rattle.std.proofs.lemmas.Result.{err_from_is_err_and}
use Rattle.calls.specs.declared.call.Call.TheVariants as call
use Rattle.driver.proofs.Calleds.{passed, enough}
use Rattle.driver.proofs.Spares.{abandon_spared}
use Rattle.driver.proofs.session.Session.abandon.Goals as goal

pub returns-in_err-admit-clause-slip : goal.returns-in_err-admit-clause-slip
returns-in_err-admit-clause-slip g c =
    let q = err_from_is_err_and c.from_residual.result c.from_residual.ensures.1 in
    rw (q.1, q.2) (abandon_spared c.args.self.now.state _ _ _ _ c.in_err-admit.ensures)

pub start_over-requires : goal.start_over-requires
start_over-requires g c = enough (passed g.P.Port c.args.self.now (call.Abandon c.args.slip.now.number) [] c.in_ok-admit.ensures)
