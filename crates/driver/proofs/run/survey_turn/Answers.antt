use Rattle.driver.proofs.Scripting.{closed}
use Rattle.driver.proofs.run.survey_turn.Goals as goal

pub returns-in-Close : goal.returns-in-Close
returns-in-Close g c = closed c.args.survey c.close.result c.args.call c.in-Close.is c.close.ensures
