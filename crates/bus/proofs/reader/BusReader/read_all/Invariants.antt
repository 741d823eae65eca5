use Rattle.std.proofs.Common.{◌≡◌, take}
use Rattle.bus.specs.Bus.{steps}
use Rattle.bus.specs.Readers.{held}
use Rattle.bus.proofs.reader.BusReader.read_all.Given as goal

abbrev pub invariant-loop-cycle : goal.invariant-loop-cycle
invariant-loop-cycle l = held l.self ≡ steps (held l.initial.self) (take l.cycle-index l.cycles)
