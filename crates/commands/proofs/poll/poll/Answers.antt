use Rattle.std.proofs.Common.{map, sym, arith}
use Rattle.port.specs.Meanings.{gave}
use Rattle.commands.specs.Polls.{taken}
use Rattle.commands.proofs.Runs.{ran_step, stopped_here, passed_on}
use Rattle.commands.proofs.Waits.{waited_more, ready_now, timed_out_lem, ran_out}
use Rattle.commands.proofs.poll.poll.Goals as goal

pub returns-in_err-put_command : goal.returns-in_err-put_command
returns-in_err-put_command g c =
    passed_on c.from_residual.result _ _ _ c.from_residual.ensures.1 (stopped_here (λ rs. map gave (taken c.args.polls rs)) c.in_err-put_command.ensures)

pub returns-in_err-status : goal.returns-in_err-status
returns-in_err-status g c =
    passed_on c.from_residual-in_err-status.result _ _ _ c.from_residual-in_err-status.ensures.1 (ran_out c.in_ok-put_command.ensures c.loop-turn.invariant c.args.page (omega arith) c.in_err-status.ensures.steps)

pub returns-then-is_ready : goal.returns-then-is_ready
returns-then-is_ready g c =
    ready_now c.in_ok-put_command.ensures c.loop-turn.invariant (omega arith) (ran_step c.in_ok-status.ensures.steps)
    (sym c.if-is_ready.ensures)

pub loop-turn-preserved : goal.loop-turn-preserved
loop-turn-preserved g c = waited_more c.loop-turn.invariant (ran_step c.in_ok-status.ensures.steps) (sym c.if-is_ready.ensures)

pub returns : goal.returns
returns g c = timed_out_lem c.in_ok-put_command.ensures c.loop-turn.invariant c.args.page (omega arith)
