use Rattle.driver.specs.Called.{unit_reply}
use Rattle.driver.proofs.Ones.{settle_one}
use Rattle.driver.proofs.driver.Driver.settle.Goals as goal

pub returns : goal.returns
returns g c = record {
  called = c.settle.ensures.called;
  slip = c.settle.ensures.slip;
  others = settle_one c.args.self.now.session c.settle.new.self c.args.slip.now.number (unit_reply c.settle.result) c.settle.ensures.called;
}
