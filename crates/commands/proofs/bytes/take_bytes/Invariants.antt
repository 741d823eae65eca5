use Rattle.std.proofs.Common.{map, take}
use Rattle.port.specs.Meanings.{gave}
use Rattle.commands.specs.Sent.{Ran}
use Rattle.commands.proofs.bytes.take_bytes.Given as goal

abbrev pub invariant-loop-byte : goal.invariant-loop-byte
invariant-loop-byte g l = Ran g.P.Port (map gave (take l.byte-index l.buffer)) l.initial.port l.port
