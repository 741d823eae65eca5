use Rattle.std.proofs.Common.{cond, length, ap, ◌∙◌}
use Rattle.flash.specs.Parts.{blocks_of}
use Rattle.std.proofs.lemmas.Bool.{le-leb}
use Rattle.driver.specs.Opens.{poll_count}
use Rattle.runs.proofs.Rooms.{never_full, polls_few}
use Rattle.runs.proofs.run_on_chip.Goals as goal

pub returns : goal.returns
returns c =
    λ h. let f = c.run.ensures (c.new.ensures.fresh h) in
    record {
      start = c.new.result;
      followed = f;
      roomy = λ l. never_full (poll_count c.args.polls) f.turns _ f.ends (polls_few c.args.polls)
          (c.new.ensures.room ∙ ap (λ b. cond b 65535 0) (le-leb (blocks_of c.args.part) (length c.args.blocks.now) l)) f.each f.law;
    }
