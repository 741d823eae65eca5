use Rattle.std.proofs.Common.{arith}
use Rattle.std.proofs.lemmas.Result.{err_from_is_err_and}
use Rattle.bus_log.proofs.Readings.{ends}
use Rattle.bus_log.proofs.log_reader.LogReader.read.Goals as goal

pub returns-in_err-read_byte : goal.returns-in_err-read_byte
returns-in_err-read_byte c =
    let p = err_from_is_err_and c.from_residual.result c.from_residual.ensures.1 in
    rw (p.1, p.2) (ends _ _ _ c.args.bytes.now c.loop-byte.byte-index c.loop-byte.invariant (omega arith) _ c.in_err-read_byte.ensures)
