use Rattle.events.proofs.teller.Teller.new.Goals as goal

pub returns-clause-begun : goal.returns-clause-begun
returns-clause-begun c = λ e. let first = rw e at c.new.ensures.first in let items = c.new-2.ensures.items in cc
