use Rattle.driver.proofs.Calleds.{called_pick}
use Rattle.driver.proofs.session.Session.pick.Goals as goal

pub returns : goal.returns
returns g c = called_pick g.P.Port c.args.self.now c.args.from c.pick.ensures
