use Rattle.flash.specs.Records.{programmed}
use Rattle.record.proofs.record.Record.note_program.Goals as goal

pub returns : goal.returns
returns c = c.change.ensures (programmed c.args.allowed c.args.page.page) (λ k l e. cc)
