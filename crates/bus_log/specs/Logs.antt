-- A log: lines with a line feed after each, and the cycles that they hold.
use Rattle.std.specs.Prelude.{◌≡◌, ℕ, ◌+◌, ◌-◌, ◌/◌, ◌%◌, ◌^◌, ◌<◌, min, Bool, true, false, cond, List, [], ◌∷◌, ◌++◌, length, take, Some, None, Option, Ok, Err, Result, ◌==◌}
use mathlib.Core.List.{foldl}
use Rattle.std.specs.List.{flat_map}
use Rattle.flash.specs.declared.cycle.Cycle.{Cycle}
use Rattle.flash.specs.declared.cycle.Kind.{Kind}
use Rattle.flash.specs.declared.cycle.Kind.TheVariants.{Command, Address, DataIn, DataOut}
use Rattle.bus_log.specs.Hexes.{hex_digit}
use Rattle.bus_log.specs.Lines.{feed, finish}
use Rattle.bus_log.specs.declared.line.Scan.{Scan}
use Rattle.bus_log.specs.declared.line.Scan.TheVariants as scan
use Rattle.bus_log.specs.declared.line.NotACycle.{NotACycle}
use Rattle.bus_log.specs.declared.log_reader.LogReader.{LogReader}
use Rattle.bus_log.specs.declared.log_reader.LogError.{LogError}
use Rattle.bus_log.specs.declared.log_reader.LogError.TheVariants as error

-- where the reading of a log stands: what has been read of a line, its number from 1, the cycles so
-- far, and whether this line is no cycle, so that the reading has stopped
pub record Reading : Type 0 where
  pub scan : Scan
  pub line : ℕ
  pub cycles : List Cycle
  pub stopped : Bool

abbrev pub begun : Reading
begun = record { scan = scan.Blank; line = 1; cycles = []; stopped = false }

-- the next line begins, with these cycles so far
abbrev pub next_line : ℕ → List Cycle → Reading
next_line n cs = record { scan = scan.Blank; line = min (n + 1) (2 ^ 64 - 1); cycles = cs; stopped = false }

abbrev pub line_ends : Reading → Result (Option Cycle) NotACycle → Reading
line_ends s (Ok None) = next_line s.line s.cycles
line_ends s (Ok (Some c)) = next_line s.line (s.cycles ++ c ∷ [])
line_ends s (Err e) = record { scan = s.scan; line = s.line; cycles = s.cycles; stopped = true }

-- one byte more: the first line that is no cycle stops the reading
abbrev pub read_byte : Reading → ℕ → Reading
read_byte s b =
    cond s.stopped s
    (cond (b == 10) (line_ends s (finish s.scan))
    (record { scan = feed s.scan b; line = s.line; cycles = s.cycles; stopped = false }))

abbrev pub reads : Reading → List ℕ → Reading
reads s bs = foldl read_byte s bs

-- a reader at run time, with the cycles that it has given
abbrev pub standing : LogReader → List Cycle → Reading
standing x cs = record { scan = x.scan; line = x.line; cycles = cs; stopped = false }

abbrev pub stopped_at : Reading → Reading
stopped_at s = record { scan = s.scan; line = s.line; cycles = s.cycles; stopped = true }

-- the reading went from s to t over these bytes; or up to a line that is no cycle; or memory ran out
abbrev pub Went : Result (Unit {0}) LogError → Reading → List ℕ → Reading → Type 0
Went (Ok u) s bs t = reads s bs ≡ t
Went (Err (error.NotACycle n)) s bs t = (reads s bs ≡ stopped_at t) × (n ≡ t.line)
Went (Err error.Memory) s bs t = (n : ℕ) × (n < length bs) × (reads s (take n bs) ≡ t)

-- a cycle as a line: the kind digit, two upper-case hexadecimal digits, a line feed
abbrev pub digit_of : Kind → ℕ
digit_of Command = 48
digit_of Address = 49
digit_of DataIn = 50
digit_of DataOut = 51

abbrev pub line_for : Cycle → List ℕ
line_for c = digit_of c.kind ∷ hex_digit (c.byte / 16) ∷ hex_digit (c.byte % 16) ∷ 10 ∷ []

-- the lines of these cycles
abbrev pub log_text : List Cycle → List ℕ
log_text cs = flat_map line_for cs

-- at the start of a line, the line of a cycle reads back as that cycle, whatever came before
abbrev pub ReadsBack : Cycle → List ℕ → Type 0
ReadsBack c bs = (n : ℕ) (cs : List Cycle) → reads (record { scan = scan.Blank; line = n; cycles = cs; stopped = false }) bs ≡ next_line n (cs ++ c ∷ [])
