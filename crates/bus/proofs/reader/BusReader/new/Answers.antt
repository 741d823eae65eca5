use Rattle.std.proofs.Common.{length, sym, subst}
use Rattle.bus.specs.Laws.{EverSound}
use Rattle.bus.specs.States.{first_bus}
use Rattle.bus.proofs.Sounds.{ever_sound}
use Rattle.bus.proofs.reader.BusReader.new.Goals as goal

pub returns-clause-sound : goal.returns-clause-sound
returns-clause-sound c = subst (λ ks. EverSound (record { bus = first_bus; blocks = ks })) (sym (c.fill.ensures.after (λ y h. h))) (ever_sound (length c.args.blocks.now))
