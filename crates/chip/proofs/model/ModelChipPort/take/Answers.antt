use Rattle.std.proofs.Common.{sym, ap, ◌∙◌}
use Rattle.port.specs.Meanings.{gave}
use Rattle.chip.specs.Chips.{Chip, chip_step}
use Rattle.chip.specs.States.{chip_in}
use Rattle.chip.specs.declared.model.ModelChip.{ModelChip}
use Rattle.chip.proofs.Ports.{take_stays, chip_stepped}
use Rattle.chip.proofs.model.ModelChipPort.take.Goals as goal

pub invariant_of-self : goal.invariant_of-self
invariant_of-self c =
    let k : ModelChip = c.args.self.now in
    record { own = take_stays k.part k.statuses.now (chip_in k.state) (chip_in c.step.new.self) c.byte_out-byte.result c.byte_out-byte.ensures c.step.ensures.chip k.own }

pub returns-clause-steps : goal.returns-clause-steps
unfolding chip_step
returns-clause-steps c =
    let k : ModelChip = c.args.self.now in
    chip_stepped k.part k.state.reader c.step.new.self.reader (gave c.byte_out-byte.result) (ap (λ (x : Chip). x.reader) c.step.ensures.chip) c.step.ensures.means
    (take_stays k.part k.statuses.now (chip_in k.state) (chip_in c.step.new.self) c.byte_out-byte.result c.byte_out-byte.ensures c.step.ensures.chip k.own)
    (sym c.has_room.ensures ∙ c.if-not-has_room.false)
