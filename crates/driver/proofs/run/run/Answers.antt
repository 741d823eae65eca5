use Rattle.std.proofs.Common.{vec_items, refl}
use Rattle.driver.specs.Opens.{poll_count}
use Rattle.driver.specs.declared.stage.Stage.TheVariants as stage
use Rattle.driver.proofs.Scripting.{scripted_none, scripted_rest, scripted_more, followed}
use Rattle.driver.proofs.run.run.Goals as goal

pub loop-step-init : goal.loop-step-init
loop-step-init g c = scripted_none (stage.Surveying c.open.result) c.args.script.now (vec_items c.args.answers.now)

pub loop-step-preserved : goal.loop-step-preserved
loop-step-preserved g c =
    scripted_more (stage.Surveying c.open.result) c.args.script.now c.loop-step.step-index (vec_items c.args.answers.now) (vec_items c.loop-step.answers) (vec_items c.take_step.new.answers)
    c.loop-step.stage c.in-Ok.next c.loop-step.invariant c.loop-step-test.true c.step-item.result c.step-item.is c.in-Ok.ensures

pub returns-in-Err : goal.returns-in-Err
returns-in-Err g c =
    λ fresh. followed (stage.Surveying c.open.result) c.args.script.now c.loop-step.step-index (vec_items c.args.answers.now) (vec_items c.take_step.new.answers)
    c.in-Err.rest.value (poll_count c.args.polls) c.args.port c.finish.result
    (scripted_rest (stage.Surveying c.open.result) c.args.script.now c.loop-step.step-index (vec_items c.args.answers.now) (vec_items c.loop-step.answers) (vec_items c.take_step.new.answers) c.loop-step.stage c.in-Err.rest.value c.loop-step.invariant c.in-Err.ensures)
    refl c.open.ensures.view c.open.ensures.port fresh c.finish.ensures

pub returns : goal.returns
returns g c =
    λ fresh. followed (stage.Surveying c.open.result) c.args.script.now c.loop-step.step-index (vec_items c.args.answers.now) (vec_items c.loop-step.answers)
    c.loop-step.stage (poll_count c.args.polls) c.args.port c.finish-2.result c.loop-step.invariant refl c.open.ensures.view c.open.ensures.port fresh c.finish-2.ensures
