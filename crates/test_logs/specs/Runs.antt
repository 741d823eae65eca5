-- Runs of cycles as text.
use Rattle.std.specs.Prelude.{ℕ, false, cond, List, ◌==◌}
use mathlib.Core.List.{foldl}
use Rattle.flash.specs.declared.cycle.Cycle.{Cycle}
use Rattle.bus_log.specs.Logs.{Reading, read_byte}
use Rattle.bus_log.specs.declared.line.Scan.TheVariants as scan

-- a space ends a line
abbrev pub spaced : ℕ → ℕ
spaced b = cond (b == 32) 10 b

abbrev pub run_byte : Reading → ℕ → Reading
run_byte s b = read_byte s (spaced b)

abbrev pub run_on : Reading → List ℕ → Reading
run_on s bs = foldl run_byte s bs

-- at the start of a log, with some cycles already
abbrev pub begun_with : List Cycle → Reading
begun_with cs = record { scan = scan.Blank; line = 1; cycles = cs; stopped = false }

-- the cycles so far, and those of a run; its end ends its last line
abbrev pub ran : List Cycle → List ℕ → List Cycle
ran cs bs = (read_byte (run_on (begun_with cs) bs) 10).cycles
