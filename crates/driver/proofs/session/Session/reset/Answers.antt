use Rattle.std.proofs.Common.{[]}
use Rattle.calls.specs.declared.call.Call.TheVariants as call
use Rattle.driver.proofs.Calleds.{passed, enough}
use Rattle.driver.proofs.session.Session.reset.Goals as goal

pub start_over-requires : goal.start_over-requires
start_over-requires g c = enough (passed g.P.Port c.args.self.now call.Reset [] c.in_ok-admit.ensures)
