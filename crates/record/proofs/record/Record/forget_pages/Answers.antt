use Rattle.flash.specs.Records.{stale}
use Rattle.record.proofs.record.Record.forget_pages.Goals as goal

pub returns : goal.returns
returns c = c.change.ensures stale (λ k l e. cc)
