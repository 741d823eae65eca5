use Rattle.std.proofs.Common.{◌≡◌, sym, ap, ◌∙◌, subst}
use Rattle.bus.specs.Acts.{act_of}
use Rattle.bus.specs.Bus.{step}
use Rattle.bus.specs.Readers.{held}
use Rattle.chip.specs.Chips.{Chip, chip_step, remembers}
use Rattle.chip.specs.Kept.{Kept}
use Rattle.chip.specs.Recalls.{GoesOn}
use Rattle.chip.specs.States.{memory_in, chip_in}
use Rattle.chip.specs.declared.state.ChipState.{ChipState}
use Rattle.chip.proofs.Keeps.{kept}
use Rattle.chip.proofs.Recalls.{stands_step}
use Rattle.chip.proofs.state.ChipState.step.Goals as goal

pub returns : goal.returns
unfolding chip_step
returns c =
    let s : ChipState = c.args.self.now in
    let l : Chip = chip_in (record { reader = c.read.new.self; memory = c.perform.new.self }) in
    let ran : l ≡ chip_step c.args.statuses.now (chip_in s) c.args.cycle =
    ap (λ r. record { reader = r; memory = memory_in c.perform.new.self }) c.read.ensures.holds
    ∙ ap (λ m. record { reader = step (held s.reader) c.args.cycle; memory = m })
    (c.perform.ensures
    ∙ (ap (λ a. remembers c.args.statuses.now c.bus-bus.result a (memory_in s.memory)) c.act.ensures
    ∙ ap (λ u. remembers c.args.statuses.now u (act_of u c.args.cycle) (memory_in s.memory)) c.bus-bus.ensures)) in
    record {
      chip = ran;
      means = c.read.ensures.means;
      kept = subst (λ x. Kept (chip_in s) x c.args.cycle) (sym ran) (kept c.args.statuses.now (chip_in s) c.args.cycle);
      goes_on = subst (λ x. GoesOn (chip_in s) x c.args.cycle) (sym ran) (λ t r h. stands_step c.args.statuses.now h c.args.cycle);
    }
