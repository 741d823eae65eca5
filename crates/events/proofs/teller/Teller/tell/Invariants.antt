-- the cycles so far were read and told
use Rattle.std.proofs.Common.{take, vec_items}
use Rattle.events.specs.Tellers.{stands, Told}
use Rattle.events.proofs.teller.Teller.tell.Given as goal

abbrev pub invariant-loop-cycle : goal.invariant-loop-cycle
invariant-loop-cycle l = Told (stands l.initial.self) (stands l.self) (take l.cycle-index l.cycles) (vec_items l.initial.events) (vec_items l.events)
