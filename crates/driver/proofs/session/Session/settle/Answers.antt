use Rattle.std.proofs.Common.{[], Some, refl, ap}
use Rattle.std.proofs.lemmas.Result.{err_from_is_err_and}
use Rattle.calls.specs.Table.{slip_page}
use Rattle.calls.specs.declared.call.Call.TheVariants as call
use Rattle.driver.specs.Outcomes.{settled_by}
use Rattle.driver.proofs.Calleds.{called_did, passed, enough, did_late}
use Rattle.driver.proofs.Spares.{settle_spared}
use Rattle.driver.proofs.session.Session.settle.Goals as goal

pub returns-in_err-admit-clause-slip : goal.returns-in_err-admit-clause-slip
returns-in_err-admit-clause-slip g c =
    let q = err_from_is_err_and c.from_residual.result c.from_residual.ensures.1 in
    rw (q.1, q.2) (settle_spared c.args.self.now.state _ _ _ _ c.in_err-admit.ensures)

pub returns-in_err-status-clause-called : goal.returns-in_err-status-clause-called
returns-in_err-status-clause-called g c =
    let q = err_from_is_err_and c.from_residual-in_err-status.result c.from_residual-in_err-status.ensures.1 in
    let v = c.args.self.now.state in
    let k = passed g.P.Port c.args.self.now (call.Settle c.args.slip.now.number) [] c.in_ok-admit.ensures in
    let t = rw c.polls.ensures at c.in_err-status.ensures in
    rw (q.1, q.2) (called_did k (did_late (λ rs o. settled_by v (slip_page c.args.slip.now.number) o) (enough k) (ap Some c.slip_page-page.ensures) (λ rs. refl) (λ rs. refl) t))
