use Rattle.std.proofs.Common.{sym, ap, ◌∙◌}
use Rattle.bus.specs.Bus.{step}
use Rattle.bus.specs.Readers.{meant}
use Rattle.port.specs.Meanings.{driven}
use Rattle.chip.specs.Chips.{Chip, chip_step}
use Rattle.chip.specs.States.{chip_in}
use Rattle.chip.specs.declared.model.ModelChip.{ModelChip}
use Rattle.chip.proofs.Ports.{put_stays, chip_stepped}
use Rattle.chip.proofs.model.ModelChipPort.put.Goals as goal

pub invariant_of-self : goal.invariant_of-self
invariant_of-self c =
    let k : ModelChip = c.args.self.now in
    let ran = c.step.ensures.chip ∙ ap (λ x. chip_step k.statuses.now (chip_in k.state) x) c.into.ensures in
    record { own = put_stays k.part k.statuses.now (chip_in k.state) (chip_in c.step.new.self) c.args.cycle ran k.own }

pub returns-clause-steps : goal.returns-clause-steps
unfolding chip_step
returns-clause-steps c =
    let k : ModelChip = c.args.self.now in
    let ran = c.step.ensures.chip ∙ ap (λ x. chip_step k.statuses.now (chip_in k.state) x) c.into.ensures in
    chip_stepped k.part k.state.reader c.step.new.self.reader (driven c.args.cycle) (ap (λ (x : Chip). x.reader) ran)
    (λ h. c.step.ensures.means h ∙ ap (λ x. step (meant k.state.reader) x) c.into.ensures)
    (put_stays k.part k.statuses.now (chip_in k.state) (chip_in c.step.new.self) c.args.cycle ran k.own)
    (sym c.has_room.ensures ∙ c.if-not-has_room.false)
