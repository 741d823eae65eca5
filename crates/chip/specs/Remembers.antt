-- The law of a chip's memory, over lists of cycles.
use Rattle.std.specs.Prelude.{◌≡◌, ℕ, ◌+◌, ◌*◌, ◌<◌, ◌≤◌, Bool, true, false, List, [], ◌∷◌, length, bit_and, slice_index}
use mathlib.Core.List.{foldl}
use Rattle.flash.specs.declared.cycle.Cycle.{Cycle}
use Rattle.bus.specs.declared.act.Confirm.{Confirm}
use Rattle.bus.specs.declared.act.Confirm.TheVariants as confirm
use Rattle.events.specs.Events.{Place, Thing, broke, reset, status, identity, read, byte, erase, program, Telling, follow, follows, events}
use Rattle.chip.specs.Cells.{cell_at, cell_of, read_at, among}
use Rattle.chip.specs.Chips.{Chip, chip_steps}
use Rattle.chip.specs.Kept.{broken, confirms}
use Rattle.chip.specs.Recalls.{Recall, row_at, recall, Stands, does, untouched}

abbrev pub is_copy : Confirm → Bool
is_copy confirm.Program = false
is_copy confirm.Cache = false
is_copy confirm.Copy = true

-- an erase or a program
abbrev pub changes : Thing → Bool
changes (broke n b) = false
changes reset = false
changes (status b) = false
changes (identity bs) = false
changes (read copy p) = false
changes (byte n b) = false
changes (erase b) = true
changes (program f p bs) = true

-- the cells after some cycles
abbrev pub held_after : List ℕ → Chip → List Cycle → List ℕ
held_after statuses k cs = (chip_steps statuses k cs).memory.cells

-- what a chip remembers that stands where t does, with r recalled
pub record Remembers (statuses : List ℕ) (k : Chip) (t : Telling) (r : Recall) : Type 0 where
  pub stands : Stands k t r
  -- after any cycles the cells are those recalled from what the cycles tell
  pub recalls : (cs : List Cycle) → held_after statuses k cs ≡ (foldl recall r (events t cs)).cells
  -- cells beyond the memory that was lent read FFh
  pub beyond : (cs : List Cycle) (i : ℕ) → length k.memory.cells ≤ i → cell_at (held_after statuses k cs) i ≡ 0xFF
  -- a cell that nothing told touches is as it was
  pub others : (cs : List Cycle) (i : ℕ) → untouched i (events t cs) ≡ true → cell_at (held_after statuses k cs) i ≡ cell_at k.memory.cells i
  -- a confirm that is neither while busy nor out of place erases or programs, also where it breaks another rule
  pub taken : (c : Cycle) → confirms c ≡ true → (broken k c).while_busy ≡ false → (broken k c).out_of_place ≡ false
      → (x : Thing) × (does t c ≡ x ∷ []) × (changes x ≡ true)
  -- 10h or 15h, then any cycles that leave the cell alone: a read of the span of the bytes given gives,
  -- where there is memory for it, what it gave before, ANDed with them
  pub programs : (c : Cycle) (ds : List Cycle) (f : Confirm) (p : Place) (bs : List ℕ) (j : ℕ) → does t c ≡ program f p bs ∷ [] → is_copy f ≡ false
      → j < length bs → cell_of (row_at p) (p.column + j) < length k.memory.cells → untouched (cell_of (row_at p) (p.column + j)) (events (follow t c) ds) ≡ true
      → read_at (held_after statuses k (c ∷ ds)) (row_at p) (p.column + j) ≡ bit_and (read_at k.memory.cells (row_at p) (p.column + j)) (slice_index bs j)
  -- the 10h of a copy: a read of its row gives what it gave before, ANDed with what the source row gave
  pub copies : (c : Cycle) (ds : List Cycle) (p : Place) (bs : List ℕ) (j : ℕ) → does t c ≡ program confirm.Copy p bs ∷ []
      → j < 2112 → cell_of (row_at p) j < length k.memory.cells → untouched (cell_of (row_at p) j) (events (follow t c) ds) ≡ true
      → read_at (held_after statuses k (c ∷ ds)) (row_at p) j ≡ bit_and (read_at k.memory.cells (row_at p) j) (read_at k.memory.cells r.source j)
  -- D0h: each cell of its block is FFh
  pub erases : (c : Cycle) (ds : List Cycle) (b i : ℕ) → does t c ≡ erase b ∷ [] → among (135168 * b) 135168 i ≡ true → untouched i (events (follow t c) ds) ≡ true
      → cell_at (held_after statuses k (c ∷ ds)) i ≡ 0xFF

-- of a new chip nothing was told, and no row was read for a copy
abbrev pub telling : Chip → Telling
telling k = record { reader = k.reader; hand = []; cycles = 0 }

abbrev pub recalling : Chip → Recall
recalling k = record { cells = k.memory.cells; source = 0 }

-- it remembers now, and after any list of cycles
abbrev pub EverRemembers : List ℕ → Chip → Type 0
EverRemembers statuses k = (cs : List Cycle)
    → Remembers statuses (chip_steps statuses k cs) (follows (telling k) cs) (foldl recall (recalling k) (events (telling k) cs))
