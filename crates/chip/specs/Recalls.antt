-- What the cells of a chip hold, recalled from what the bus reader tells.
use Rattle.std.specs.Prelude.{◌≡◌, ℕ, ◌+◌, ◌*◌, Bool, true, false, cond, not, ◌&&◌, List, [], ◌∷◌, length}
use mathlib.Core.List.{foldl}
use Rattle.flash.specs.declared.cycle.Cycle.{Cycle}
use Rattle.bus.specs.Acts.{act_of}
use Rattle.bus.specs.declared.act.Confirm.{Confirm}
use Rattle.bus.specs.declared.act.Confirm.TheVariants as confirm
use Rattle.events.specs.Events.{Place, Thing, broke, reset, status, identity, read, byte, erase, program, Telling, happened, later, tells, follow}
use Rattle.chip.specs.Cells.{cell_of, among, altered, anded, block_erased, row_programmed, row_held}
use Rattle.chip.specs.Chips.{Chip}
use Rattle.chip.specs.Waits.{Waits}

-- the cells, and the row that was last read for a copy
pub record Recall : Type 0 where
  pub cells : List ℕ
  pub source : ℕ

abbrev pub row_at : Place → ℕ
row_at p = 64 * p.block + p.page

-- bytes ANDed into the cells from base on
abbrev pub span_programmed : ℕ → List ℕ → List ℕ → List ℕ
span_programmed base bs cells = altered (anded base (length bs) bs) 0 cells

-- 10h and 15h program the bytes given; the 10h of a copy programs the whole page of the source
abbrev pub program_recalled : Confirm → Place → List ℕ → Recall → List ℕ
program_recalled confirm.Program p bs r = span_programmed (cell_of (row_at p) p.column) bs r.cells
program_recalled confirm.Cache p bs r = span_programmed (cell_of (row_at p) p.column) bs r.cells
program_recalled confirm.Copy p bs r = row_programmed (row_at p) (row_held r.source r.cells) r.cells

-- one thing more
abbrev pub recall : Recall → Thing → Recall
recall r (broke n b) = r
recall r reset = r
recall r (status b) = r
recall r (identity bs) = r
recall r (read copy p) = record { cells = r.cells; source = cond copy (row_at p) r.source }
recall r (byte n b) = r
recall r (erase b) = record { cells = block_erased b r.cells; source = r.source }
recall r (program f p bs) = record { cells = program_recalled f p bs r; source = r.source }

-- a chip stands where a telling does, and its cells are those recalled
pub record Stands (k : Chip) (t : Telling) (r : Recall) : Type 0 where
  pub reader : t.reader ≡ k.reader
  pub cells : r.cells ≡ k.memory.cells
  pub waits : Waits k.reader.bus k.memory.cells k.memory.page t.hand r.source

-- from k to l after the cycle c: what waits, and what is recalled, go on with what the cycle tells
abbrev pub GoesOn : Chip → Chip → Cycle → Type 0
GoesOn k l c = (t : Telling) (r : Recall) → Stands k t r → Stands l (follow t c) (foldl recall r (tells t c))

-- what a cycle does, the rules that it breaks aside
abbrev pub does : Telling → Cycle → List Thing
does t c = happened (later t.cycles) (act_of t.reader.bus c) t.hand

-- a thing told may change this cell: one of an erased block, of the bytes of a program, of a copy's row
abbrev pub program_touches : Confirm → Place → List ℕ → ℕ → Bool
program_touches confirm.Program p bs i = among (cell_of (row_at p) p.column) (length bs) i
program_touches confirm.Cache p bs i = among (cell_of (row_at p) p.column) (length bs) i
program_touches confirm.Copy p bs i = among (2112 * row_at p) 2112 i

abbrev pub touches : Thing → ℕ → Bool
touches (broke n b) i = false
touches reset i = false
touches (status b) i = false
touches (identity bs) i = false
touches (read copy p) i = false
touches (byte n b) i = false
touches (erase b) i = among (135168 * b) 135168 i
touches (program f p bs) i = program_touches f p bs i

-- none of these things may
abbrev pub untouched : ℕ → List Thing → Bool
untouched i [] = true
untouched i (x ∷ xs) = not (touches x i) && untouched i xs
