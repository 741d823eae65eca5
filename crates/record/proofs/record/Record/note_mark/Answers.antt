use Rattle.flash.specs.Records.{mark_read}
use Rattle.record.proofs.record.Record.note_mark.Goals as goal

pub returns : goal.returns
returns c = c.change.ensures (mark_read c.args.page.page c.args.byte) (λ k l e. cc)
