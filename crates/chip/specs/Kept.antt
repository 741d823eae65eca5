-- What one cycle may do to the memory of a chip: `k` is the chip before the cycle `c`, `l` after it.
use Rattle.std.specs.Prelude.{◌≡◌, ℕ, ◌+◌, ◌*◌, ◌<◌, ◌≤◌, Bool, true, false, ◌&&◌, ◌||◌, List, [], ◌∷◌, ◌++◌, map, length, Some, None, Option, ◌==◌, bit_and, nat_eq, slice_index, slice_set}
use Rattle.flash.specs.Addresses.{block_of}
use Rattle.flash.specs.Statuses.{ready}
use Rattle.flash.specs.declared.address.Column.{Column}
use Rattle.flash.specs.declared.address.Row.{Row}
use Rattle.flash.specs.declared.cycle.Cycle.{Cycle}
use Rattle.flash.specs.declared.cycle.Kind.TheVariants.{Command, Address, DataIn, DataOut}
use Rattle.bus.specs.Acts.{act_of}
use Rattle.bus.specs.Bus.{breaches_of}
use Rattle.bus.specs.States.{nothing_given}
use Rattle.bus.specs.declared.act.Act.{Act}
use Rattle.bus.specs.declared.act.Act.TheVariants as act
use Rattle.bus.specs.declared.act.Confirm.{Confirm}
use Rattle.bus.specs.declared.breach.Breaches.{Breaches}
use Rattle.bus.specs.declared.state.Work.{Work}
use Rattle.bus.specs.declared.state.Work.TheVariants as work
use Rattle.bus.specs.declared.state.Phase.{Phase}
use Rattle.bus.specs.declared.state.Phase.TheVariants as phase
use Rattle.bus.specs.declared.state.PageRead.{PageRead}
use Rattle.bus.specs.declared.state.Setup.TheVariants as setup
use Rattle.chip.specs.Cells.{cell_at, cell_of, read_at, among, blank_page}
use Rattle.chip.specs.Chips.{Chip, chip_step, chip_steps}

abbrev pub broken : Chip → Cycle → Breaches
broken k c = breaches_of k.reader (act_of k.reader.bus c)

-- the confirms that may change cells: D0h, 10h, 15h
abbrev pub confirms : Cycle → Bool
confirms c = elim c.kind [ Command ↦ (c.byte == 0xD0) || (c.byte == 0x10 || c.byte == 0x15) | Address ↦ false | DataIn ↦ false | DataOut ↦ false ]

-- the cycles that may change the page buffer: 80h, a byte in, a status byte
abbrev pub is_status : Phase → Bool
is_status phase.Quiet = false
is_status phase.Status = true
is_status phase.Output = false
is_status phase.Identity = false
is_status (phase.IdentityBytes g) = false
is_status phase.ReadSetup = false
is_status (phase.Addressing s g) = false
is_status (phase.Addressed s c w) = false
is_status (phase.Loading w s n) = false

abbrev pub fills_page : Phase → Cycle → Bool
fills_page p c = elim c.kind [ Command ↦ nat_eq c.byte 0x80 | Address ↦ false | DataIn ↦ true | DataOut ↦ is_status p ]

-- a copy read is busy
abbrev pub copies : Option Work → Bool
copies None = false
copies (Some work.Reset) = false
copies (Some (work.Read x)) = x.copy
copies (Some work.CachePage) = false
copies (Some (work.Program b)) = false
copies (Some (work.Erase b)) = false

-- an act that works on cells
abbrev pub works : Act → Bool
works act.WhileBusy = false
works act.OutOfPlace = false
works act.Reset = false
works (act.Prepare p g) = false
works (act.Status b) = false
works (act.Identify bs) = false
works (act.Read x) = false
works (act.Data w c b) = false
works (act.Erase w) = true
works (act.Load w s c b) = false
works (act.Program w c f) = true

-- a program of a row: each cell of it that there is memory for is ANDed with the byte that waits in
-- its column, and no cell elsewhere changes
pub record Programmed (before page after : List ℕ) (row : ℕ) : Type 0 where
  pub here : (j : ℕ) → j < 2112 → cell_of row j < length before → cell_at after (cell_of row j) ≡ bit_and (cell_at before (cell_of row j)) (slice_index page j)
  pub elsewhere : (i : ℕ) → among (2112 * row) 2112 i ≡ false → cell_at after i ≡ cell_at before i

-- an erase of a block: all its cells are FFh, and no cell elsewhere changes
pub record Erased (before after : List ℕ) (block : ℕ) : Type 0 where
  pub here : (i : ℕ) → among (135168 * block) 135168 i ≡ true → cell_at after i ≡ 0xFF
  pub elsewhere : (i : ℕ) → among (135168 * block) 135168 i ≡ false → cell_at after i ≡ cell_at before i

pub record Kept (k l : Chip) (c : Cycle) : Type 0 where
  -- a cycle that is while busy or out of place changes nothing of the memory, and no cycle but a confirm a cell
  pub while_busy : (broken k c).while_busy ≡ true → l.memory ≡ k.memory
  pub out_of_place : (broken k c).out_of_place ≡ true → l.memory ≡ k.memory
  pub others : confirms c ≡ false → l.memory.cells ≡ k.memory.cells
  -- a confirm that breaks neither of these rules programs a row or erases a block, also where it breaks another
  pub taken : confirms c ≡ true → (broken k c).while_busy ≡ false → (broken k c).out_of_place ≡ false → works (act_of k.reader.bus c) ≡ true
  pub programs : (w : Row) (s : Column) (f : Confirm) → act_of k.reader.bus c ≡ act.Program w s f
      → Programmed k.memory.cells k.memory.page l.memory.cells w.number
  pub erases : (w : Row) → act_of k.reader.bus c ≡ act.Erase w → Erased k.memory.cells l.memory.cells (block_of w)
  -- what waits for the confirm stays until then; it is FFh from 80h on, then each byte in its column; or the
  -- page of a copy read that ends
  pub waits : fills_page k.reader.bus.phase c ≡ false → l.memory.page ≡ k.memory.page
  pub rests : (b : ℕ) → act_of k.reader.bus c ≡ act.Status b → (ready b && copies k.reader.bus.busy) ≡ false → l.memory.page ≡ k.memory.page
  pub begins : (g : Option PageRead) → act_of k.reader.bus c ≡ act.Prepare (phase.Addressing setup.Program nothing_given) g → l.memory.page ≡ blank_page
  pub loads : (w : Row) (s n : Column) (b : ℕ) → act_of k.reader.bus c ≡ act.Load w s n b → l.memory.page ≡ slice_set k.memory.page n.number b
  pub copied : (x : PageRead) (b : ℕ) → act_of k.reader.bus c ≡ act.Status b → ready b ≡ true → k.reader.bus.busy ≡ Some (work.Read x) → x.copy ≡ true
      → (j : ℕ) → j < 2112 → slice_index l.memory.page j ≡ cell_at k.memory.cells (cell_of x.row.number j)

-- the cycles that give these bytes to program, and the confirm that ends them
abbrev pub given : List ℕ → Cycle → List Cycle
given bs confirm = map (λ b. record { kind = DataIn; byte = b }) bs ++ confirm ∷ []

-- what is programmed is what a later read gives. With the address of a program given, the buffer
-- blank and nothing busy: after bytes that fit the page and 10h or 15h, a read of their span gives,
-- where there is memory for it, what it gave before, ANDed with the bytes given, and no other cell changes
pub record HeldAfter (before after : List ℕ) (row column : ℕ) (bs : List ℕ) : Type 0 where
  pub here : (j : ℕ) → j < length bs → cell_of row (column + j) < length before
      → read_at after row (column + j) ≡ bit_and (read_at before row (column + j)) (slice_index bs j)
  pub elsewhere : (i : ℕ) → among (cell_of row column) (length bs) i ≡ false → cell_at before i < 256 → cell_at after i ≡ cell_at before i

abbrev pub ProgramsKept : Type 0
ProgramsKept = (statuses : List ℕ) (k : Chip) (w : Row) (s : Column) (bs : List ℕ) (confirm : Cycle)
    → confirm.kind ≡ Command → (confirm.byte == 0x10 || confirm.byte == 0x15) ≡ true
    → k.reader.bus.phase ≡ phase.Addressed setup.Program s w → k.reader.bus.busy ≡ None → k.memory.page ≡ blank_page
    → 0 < length bs → s.number + length bs ≤ 2112
    → HeldAfter k.memory.cells (chip_steps statuses k (given bs confirm)).memory.cells w.number s.number bs

-- a copy: with its destination given, nothing busy, and in the buffer what its source row gives, 10h
-- leaves in each cell of the destination row that there is memory for what it held, ANDed with the
-- source's
abbrev pub CopiesKept : Type 0
CopiesKept = (statuses : List ℕ) (k : Chip) (w : Row) (s : Column) (source : ℕ) (confirm : Cycle)
    → confirm.kind ≡ Command → confirm.byte ≡ 0x10
    → k.reader.bus.phase ≡ phase.Addressed setup.Copy s w → k.reader.bus.busy ≡ None
    → ((j : ℕ) → j < 2112 → slice_index k.memory.page j ≡ read_at k.memory.cells source j)
    → (j : ℕ) → j < 2112 → cell_of w.number j < length k.memory.cells
    → read_at (chip_step statuses k confirm).memory.cells w.number j ≡ bit_and (read_at k.memory.cells w.number j) (read_at k.memory.cells source j)

-- a byte of the register that the chip gives is what a read of its row and column gives
abbrev pub ReadOut : Chip → ℕ → Type 0
ReadOut k b = (w : Row) (s : Column) (d : ℕ) → act_of k.reader.bus (record { kind = DataOut; byte = b }) ≡ act.Data w s d
    → b ≡ read_at k.memory.cells w.number s.number
