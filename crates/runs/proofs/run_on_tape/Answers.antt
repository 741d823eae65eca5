use Rattle.std.proofs.Common.{length, vec_items, ap}
use Rattle.port.specs.Meanings.{Meaning}
use Rattle.driver.specs.Opens.{poll_count}
use Rattle.runs.proofs.Tapes.{on_tape}
use Rattle.runs.proofs.run_on_tape.Goals as goal

pub returns : goal.returns
returns c =
    on_tape (poll_count c.args.polls) c.args.script.now (vec_items c.args.answers.now) (vec_items c.run.new.answers) (length c.args.places.now) c.new.result c.run.result
    c.new.ensures.means (c.run.ensures (ap (λ (m : Meaning). m.reader) c.new.ensures.means))
