use Rattle.commands.proofs.Runs.{stopped_after, passed_on}
use Rattle.commands.proofs.reset.send_reset.Goals as goal

pub returns-in_err-poll : goal.returns-in_err-poll
returns-in_err-poll g c =
    passed_on c.from_residual-in_err-poll.result _ _ _ c.from_residual-in_err-poll.ensures.1 (stopped_after c.in_ok-put_command.ensures c.in_err-poll.ensures)
