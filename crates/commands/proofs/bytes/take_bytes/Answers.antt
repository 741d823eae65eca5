use Rattle.std.proofs.Common.{refl, length, arith}
use Rattle.port.specs.Meanings.{gave}
use Rattle.commands.proofs.Runs.{ran_cut, short_of, passed_on}
use Rattle.commands.proofs.bytes.take_bytes.Goals as goal

pub returns-in_err-byte : goal.returns-in_err-byte
returns-in_err-byte g c =
    passed_on c.from_residual.result _ _ _ c.from_residual.ensures.1 (
      refl,
      short_of (length c.args.buffer.now) c.loop-byte.buffer (omega arith)
          (ran_cut gave c.loop-byte.buffer c.loop-byte.byte-index (omega arith) c.loop-byte.invariant c.in_err-byte.ensures.steps),
    )
