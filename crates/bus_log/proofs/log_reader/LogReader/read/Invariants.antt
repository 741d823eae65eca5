use Rattle.std.proofs.Common.{◌≡◌, take, vec_items}
use Rattle.bus_log.specs.Logs.{standing, reads}
use Rattle.bus_log.proofs.log_reader.LogReader.read.Given as goal

abbrev pub invariant-loop-byte : goal.invariant-loop-byte
invariant-loop-byte l = reads (standing l.initial.self (vec_items l.initial.cycles)) (take l.byte-index l.bytes) ≡ standing l.self (vec_items l.cycles)
