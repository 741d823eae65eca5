use Rattle.std.proofs.Common.{arith}
use Rattle.bus_log.proofs.Backs.{reads_back, line_text}
use Rattle.bus_log.proofs.line.line_for.Goals as goal

pub returns-clause-back : goal.returns-clause-back
returns-clause-back c = rw (c.kind_digit.ensures, c.hex_digit.ensures, c.hex_digit-2.ensures) (reads_back c.args.cycle (omega arith))

pub returns-clause-text : goal.returns-clause-text
returns-clause-text c = rw (c.kind_digit.ensures, c.hex_digit.ensures, c.hex_digit-2.ensures) (line_text c.args.cycle (omega arith))
