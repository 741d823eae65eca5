use Rattle.std.proofs.Common.{map, ap}
use Rattle.commands.specs.Sequences.{address_byte}
use Rattle.commands.proofs.Runs.{ran_as, sent_after}
use Rattle.commands.proofs.bytes.put_address.Goals as goal

pub returns : goal.returns
returns g c = sent_after _ _ c.put_row.result (ran_as (ap (map address_byte) c.bytes.ensures.bytes) c.in_ok-put_bytes.ensures) c.put_row.ensures
