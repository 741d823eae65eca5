use Rattle.std.proofs.Common.{length, sym, ap, ◌∙◌, subst, rules}
use Rattle.bus.specs.Bus.{filled}
use Rattle.bus.specs.States.{first_bus}
use Rattle.chip.specs.Chips.{Chip}
use Rattle.chip.specs.Remembers.{EverRemembers}
use Rattle.chip.proofs.Ports.{first_filled, bytes_held}
use Rattle.chip.proofs.Remembers.{ever_remembers}
use Rattle.chip.proofs.Spans.{programs_kept, copies_kept}
use Rattle.chip.proofs.model.ModelChip.new.Goals as goal

pub returns-clause-keeps : goal.returns-clause-keeps
returns-clause-keeps c = programs_kept

pub returns-clause-copies : goal.returns-clause-copies
returns-clause-copies c = copies_kept

pub returns-clause-remembers : goal.returns-clause-remembers
returns-clause-remembers c =
    subst (λ (k : Chip). EverRemembers c.args.statuses.now k) (sym c.new.ensures)
    (ever_remembers c.args.statuses.now (length c.args.blocks.now) c.args.cells.now (bytes_held c.args.cells.now (λ i. search rules)))

pub returns-clause-fresh : goal.returns-clause-fresh
returns-clause-fresh c h =
    ap (λ (k : Chip). record { bus = k.reader.bus; blocks = filled k.reader.blocks }) c.new.ensures
    ∙ ap (λ ks. record { bus = first_bus; blocks = ks }) (first_filled (length c.args.blocks.now) h)
