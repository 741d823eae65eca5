use Rattle.std.proofs.Common.{map, take}
use Rattle.port.specs.Meanings.{Took, driven}
use Rattle.port.proofs.send.send.Given as goal

abbrev pub invariant-loop-cycle : goal.invariant-loop-cycle
invariant-loop-cycle g l =
    Took g.P.Port.moves (map driven (take l.cycle-index l.cycles)) (g.P.Port.meaning l.initial.port) (g.P.Port.meaning l.port)
