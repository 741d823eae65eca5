use Rattle.std.proofs.Common.{rules, refl}
use Rattle.record.proofs.record.Record.change.Goals as goal

pub returns-then-at-lt2048 : goal.returns-then-at-lt2048
returns-then-at-lt2048 g c = λ m e.
    let made = e _ _ (record { shown = _; shows = refl; left = _; met = c.change.ensures; leaves = refl }) in
    rw made (search rules)
