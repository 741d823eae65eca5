use Rattle.std.proofs.Common.{◌≡◌, sym, ap, ◌∙◌, subst, arith}
use Rattle.bus.specs.Bus.{Reader, step}
use Rattle.bus.specs.Readers.{held}
use Rattle.bus.specs.States.{blocks_in}
use Rattle.bus.specs.Laws.{Lawful}
use Rattle.bus.proofs.Steps.{lawful}
use Rattle.bus.proofs.Fills.{full, filled_step, blocks_rise}
use Rattle.bus.proofs.reader.BusReader.read.Goals as goal

after : (c : goal.After-take) → held c.take.new.self ≡ step (held c.args.self.now) c.args.cycle
unfolding step
after c = c.take.ensures.holds

pub returns : goal.returns
returns c =
    let r : Reader = held c.args.self.now in
    record {
      holds = after c;
      means = λ h. ap full (after c) ∙ sym (filled_step r c.args.cycle
          (omega (arith, h, blocks_rise r c.args.cycle, ap (λ s. blocks_in s.bus.part) (after c))));
      lawful = subst (λ s. Lawful r s c.args.cycle) (sym (after c)) (lawful r c.args.cycle);
      tells = c.take.ensures.tells;
    }
