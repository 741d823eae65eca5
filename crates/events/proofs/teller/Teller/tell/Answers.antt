use Rattle.std.proofs.Common.{arith}
use Rattle.std.proofs.lemmas.Result.{err_from_is_err_and}
use Rattle.events.proofs.Tells.{told_none, told_more, told_all, told_stopped}
use Rattle.events.proofs.teller.Teller.tell.Goals as goal

pub loop-cycle-init : goal.loop-cycle-init
loop-cycle-init c = told_none _ _

pub loop-cycle-preserved : goal.loop-cycle-preserved
loop-cycle-preserved c = told_more c.args.cycles.now c.loop-cycle.cycle-index _ (omega arith) c.loop-cycle.invariant c.in_ok-tell_one.ensures

pub returns-in_err-tell_one : goal.returns-in_err-tell_one
returns-in_err-tell_one c =
    let p = err_from_is_err_and c.from_residual.result c.from_residual.ensures.1 in
    rw p.1 (told_stopped c.args.cycles.now c.loop-cycle.cycle-index (omega arith) c.loop-cycle.invariant c.in_err-tell_one.ensures)

pub returns : goal.returns
returns c = told_all c.args.cycles.now c.loop-cycle.cycle-index (omega arith) c.loop-cycle.invariant
