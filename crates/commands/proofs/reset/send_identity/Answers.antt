use Rattle.std.proofs.Common.{map}
use Rattle.port.specs.Meanings.{gave}
use Rattle.commands.specs.Polls.{first_of}
use Rattle.commands.proofs.Runs.{short_after, short_here, passed_on}
use Rattle.commands.proofs.reset.send_identity.Goals as goal

pub returns-in_err-put_bytes : goal.returns-in_err-put_bytes
returns-in_err-put_bytes g c =
    passed_on c.from_residual-in_err-put_bytes.result _ _ _ c.from_residual-in_err-put_bytes.ensures.1 (c.in_err-put_bytes.ensures.0, short_after c.in_ok-put_command.ensures (short_here (λ rs. map gave (first_of 5 rs)) c.in_err-put_bytes.ensures.1))

pub returns-in_err-take_bytes : goal.returns-in_err-take_bytes
returns-in_err-take_bytes g c =
    passed_on c.from_residual-in_err-take_bytes.result _ _ _ c.from_residual-in_err-take_bytes.ensures.1 (c.in_err-take_bytes.ensures.0, short_after c.in_ok-put_command.ensures (short_after c.in_ok-put_bytes.ensures c.in_err-take_bytes.ensures.1))
