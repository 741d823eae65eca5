use Rattle.commands.proofs.Runs.{cut_here, cut_later, sent_after, passed_on}
use Rattle.commands.proofs.program.send_program.Goals as goal

pub returns-in_err-put_address : goal.returns-in_err-put_address
returns-in_err-put_address g c =
    passed_on c.from_residual-in_err-put_address.result _ _ _ c.from_residual-in_err-put_address.ensures.1 (c.in_err-put_address.ensures.0, cut_later c.in_ok-put_command.ensures (cut_here _ c.in_err-put_address.ensures.1))

pub returns-in_err-put_bytes : goal.returns-in_err-put_bytes
returns-in_err-put_bytes g c =
    passed_on c.from_residual-in_err-put_bytes.result _ _ _ c.from_residual-in_err-put_bytes.ensures.1 (c.in_err-put_bytes.ensures.0, cut_later c.in_ok-put_command.ensures (cut_later c.in_ok-put_address.ensures (cut_here _ c.in_err-put_bytes.ensures.1)))

pub returns : goal.returns
returns g c =
    let r = c.put_command-2.result in
    sent_after _ _ r c.in_ok-put_command.ensures (sent_after _ _ r c.in_ok-put_address.ensures (sent_after _ _ r c.in_ok-put_bytes.ensures
    (rw c.confirm_command.ensures at c.put_command-2.ensures)))
