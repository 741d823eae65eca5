use Rattle.std.proofs.Common.{refl, arith}
use Rattle.commands.specs.Sequences.{hosted}
use Rattle.commands.proofs.Runs.{ran_cut, passed_on}
use Rattle.commands.proofs.bytes.put_bytes.Goals as goal

pub returns-in_err-put : goal.returns-in_err-put
returns-in_err-put g c =
    passed_on c.from_residual.result _ _ _ c.from_residual.ensures.1 (refl, ran_cut (hosted c.args.kind) c.args.bytes.now c.loop-byte.byte-index (omega arith) c.loop-byte.invariant c.in_err-put.ensures.steps)
