use Rattle.std.proofs.Common.{◌∷◌, Some, ap}
use Rattle.commands.specs.Polls.{command, poll_cycles}
use Rattle.commands.specs.Sequences.{addressed}
use Rattle.commands.proofs.Runs.{ran_as, cut_as, stopped_after, stopped_here, passed_on}
use Rattle.commands.proofs.read.open_page.Goals as goal

pub returns-in_err-put_address : goal.returns-in_err-put_address
returns-in_err-put_address g c =
    passed_on c.from_residual-in_err-put_address.result _ _ _ c.from_residual-in_err-put_address.ensures.1 (stopped_after c.in_ok-put_command.ensures (stopped_here (λ rs. command c.args.confirm ∷ poll_cycles c.args.polls rs) (c.in_err-put_address.ensures.0, cut_as (ap (λ w. addressed (Some c.args.part) w c.args.column) c.row.ensures) c.in_err-put_address.ensures.1)))

pub returns-in_err-put_command-2 : goal.returns-in_err-put_command-2
returns-in_err-put_command-2 g c =
    passed_on c.from_residual-in_err-put_command-2.result _ _ _ c.from_residual-in_err-put_command-2.ensures.1 (stopped_after c.in_ok-put_command.ensures (stopped_after (ran_as (ap (λ w. addressed (Some c.args.part) w c.args.column) c.row.ensures) c.in_ok-put_address.ensures) (stopped_here (poll_cycles c.args.polls) c.in_err-put_command-2.ensures)))

pub returns-in_err-poll : goal.returns-in_err-poll
returns-in_err-poll g c =
    passed_on c.from_residual-in_err-poll.result _ _ _ c.from_residual-in_err-poll.ensures.1 (stopped_after c.in_ok-put_command.ensures (stopped_after (ran_as (ap (λ w. addressed (Some c.args.part) w c.args.column) c.row.ensures) c.in_ok-put_address.ensures) (stopped_after c.in_ok-put_command-2.ensures c.in_err-poll.ensures)))
