use Rattle.std.proofs.Common.{map, take}
use Rattle.commands.specs.Sequences.{hosted}
use Rattle.commands.specs.Sent.{Ran}
use Rattle.commands.proofs.bytes.put_bytes.Given as goal

abbrev pub invariant-loop-byte : goal.invariant-loop-byte
invariant-loop-byte g l = Ran g.P.Port (map (hosted l.kind) (take l.byte-index l.bytes)) l.initial.port l.port
