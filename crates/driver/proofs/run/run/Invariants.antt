use Rattle.std.proofs.Common.{vec_items}
use Rattle.driver.proofs.Scripting.{Scripted}
use Rattle.driver.proofs.run.run.Given as goal

abbrev pub invariant-loop-step : goal.invariant-loop-step
invariant-loop-step g l =
    Scripted g.P.Port l.initial.stage l.script l.step-index (vec_items l.initial.answers) (vec_items l.answers) l.stage
