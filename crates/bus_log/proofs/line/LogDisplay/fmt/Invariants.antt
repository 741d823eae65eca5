use Rattle.std.proofs.Common.{take}
use Rattle.std.specs.Fmt.{HasWritten, IsPlainFormatter}
use Rattle.bus_log.specs.Logs.{log_text}
use Rattle.bus_log.proofs.line.LogDisplay.fmt.Given as goal

-- written so far are the lines of the cycles below the index
abbrev pub invariant-loop-cycle : goal.invariant-loop-cycle
invariant-loop-cycle g l =
    IsPlainFormatter l.initial.f → HasWritten g.W.Write.write_str_gives l.initial.f (log_text (take l.cycle-index l.cycle-items)) l.f
