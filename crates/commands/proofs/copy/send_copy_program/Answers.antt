use Rattle.commands.proofs.Runs.{cut_here, cut_later, sent_after, passed_on}
use Rattle.commands.proofs.copy.send_copy_program.Goals as goal

pub returns-in_err-put_address : goal.returns-in_err-put_address
returns-in_err-put_address g c =
    passed_on c.from_residual-in_err-put_address.result _ _ _ c.from_residual-in_err-put_address.ensures.1 (c.in_err-put_address.ensures.0, cut_later c.in_ok-put_command.ensures (cut_here _ c.in_err-put_address.ensures.1))

pub returns : goal.returns
returns g c = sent_after _ _ c.put_command-2.result c.in_ok-put_command.ensures (sent_after _ _ c.put_command-2.result c.in_ok-put_address.ensures c.put_command-2.ensures)
