-- One step is lawful.
use Rattle.std.proofs.Common.{◌≡◌, true}
use Rattle.flash.specs.declared.cycle.Cycle.{Cycle}
use Rattle.bus.specs.Laws.{Lawful, Dropped, is_command}
use Rattle.bus.proofs.Acts.{busy_means, reset, may}
use Rattle.bus.proofs.Blocks.{one_block}
use Rattle.bus.proofs.Counts.{while_busy_lem, out_of_place_lem, rises, least}
use Rattle.bus.proofs.Moves.{part_stays}
use Rattle.bus.proofs.Sounds.{sound, freshness}
use Rattle.bus.specs.Acts.{act_of}
use Rattle.bus.specs.Bus.{Reader, step}
use Rattle.bus.specs.declared.act.Act.{Act}
use Rattle.bus.specs.declared.act.Act.TheVariants as act

drops : (r : Reader) (c : Cycle) → is_command c 0xFF ≡ true → Dropped r (step r c) c
unfolding step
drops r c h =
    let e : act_of r.bus c ≡ act.Reset = reset r.bus c h in
    record { taken = rw e; phase = rw e; busy = rw e; register = rw e; chain = rw e }

pub lawful : (r : Reader) (c : Cycle) → Lawful r (step r c) c
unfolding step
lawful r c =
    let a : Act = act_of r.bus c in
    record {
      misfit = record { busy = while_busy_lem r a; place = out_of_place_lem r a };
      while_busy = busy_means r c;
      counted = record { rises = rises r a; least = least r a };
      reset = drops r c;
      records = one_block r c _ _ _ _ (may r.bus c);
      part = part_stays r.bus a;
      sound = sound r c;
      freshness = freshness r c;
    }
