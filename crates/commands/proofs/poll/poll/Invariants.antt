use Rattle.commands.proofs.Waits.{Waited}
use Rattle.commands.proofs.poll.poll.Given as goal

abbrev pub invariant-loop-turn : goal.invariant-loop-turn
invariant-loop-turn g l = Waited g.P.Port l._turn l.initial.port l.port
