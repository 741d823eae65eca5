-- The model chip: its memory beside the bus reader.
use Rattle.std.specs.Prelude.{ℕ, Bool, true, false, cond, ◌&&◌, List, [], ◌∷◌, Some, None, Option, ◌==◌, nat_le, nat_lt, replicate, slice_index_or, slice_set}
use mathlib.Core.List.{foldl}
use Rattle.std.specs.Str.{bytes_eq}
use Rattle.flash.specs.Addresses.{block_of, in_page}
use Rattle.flash.specs.Parts.{blocks_of, identity_of}
use Rattle.flash.specs.Records.{first_record}
use Rattle.flash.specs.Statuses.{ready}
use Rattle.flash.specs.declared.address.Column.{Column}
use Rattle.flash.specs.declared.cycle.Cycle.{Cycle}
use Rattle.flash.specs.declared.part.Part.{Part}
use Rattle.flash.specs.declared.part.Part.TheVariants.{OneGbit, TwoGbit}
use Rattle.bus.specs.Acts.{act_of}
use Rattle.bus.specs.Bus.{Reader, step}
use Rattle.bus.specs.States.{first_bus}
use Rattle.bus.specs.declared.act.Act.{Act}
use Rattle.bus.specs.declared.act.Act.TheVariants as act
use Rattle.bus.specs.declared.state.Given.{Given}
use Rattle.bus.specs.declared.state.Setup.TheVariants as setup
use Rattle.bus.specs.declared.state.Phase.{Phase}
use Rattle.bus.specs.declared.state.Phase.TheVariants as phase
use Rattle.bus.specs.declared.state.Work.{Work}
use Rattle.bus.specs.declared.state.Work.TheVariants as work
use Rattle.bus.specs.declared.state.PageRead.{PageRead}
use Rattle.bus.specs.declared.state.BusState.{BusState}
use Rattle.chip.specs.Cells.{cell_at, cell_of, block_erased, row_programmed, blank_page, row_held}

-- the cells, the page buffer in which bytes wait for their confirm, and the status byte to answer
pub record Memory : Type 0 where
  pub cells : List ℕ
  pub page : List ℕ
  pub status : ℕ

-- 80h: a program begins
abbrev pub begins_program : Phase → Bool
begins_program phase.Quiet = false
begins_program phase.Status = false
begins_program phase.Output = false
begins_program phase.Identity = false
begins_program (phase.IdentityBytes g) = false
begins_program phase.ReadSetup = false
begins_program (phase.Addressing setup.Read g) = false
begins_program (phase.Addressing setup.Erase g) = false
begins_program (phase.Addressing setup.Program g) = g.count == 0
begins_program (phase.Addressing setup.Copy g) = false
begins_program (phase.Addressed s c w) = false
begins_program (phase.Loading w s n) = false

-- a copy read that ends leaves the page that it read in the buffer
abbrev pub copied_page : Option Work → List ℕ → Option (List ℕ)
copied_page None cells = None
copied_page (Some work.Reset) cells = None
copied_page (Some (work.Read x)) cells = cond x.copy (Some (row_held x.row.number cells)) None
copied_page (Some work.CachePage) cells = None
copied_page (Some (work.Program b)) cells = None
copied_page (Some (work.Erase b)) cells = None

-- a byte in its column of the page
abbrev pub loaded : List ℕ → Column → ℕ → List ℕ
loaded page c b = slice_set page c.number b

-- what an act makes of the cells, with this page in the buffer
abbrev pub cells_after : Act → List ℕ → List ℕ → List ℕ
cells_after act.WhileBusy page cells = cells
cells_after act.OutOfPlace page cells = cells
cells_after act.Reset page cells = cells
cells_after (act.Prepare p g) page cells = cells
cells_after (act.Status b) page cells = cells
cells_after (act.Identify bs) page cells = cells
cells_after (act.Read x) page cells = cells
cells_after (act.Data w c b) page cells = cells
cells_after (act.Erase w) page cells = block_erased (block_of w) cells
cells_after (act.Load w s c b) page cells = cells
cells_after (act.Program w c f) page cells = row_programmed w.number page cells

-- a whole page that an act puts into the buffer, if it does
abbrev pub new_page : BusState → Act → List ℕ → Option (List ℕ)
new_page u act.WhileBusy cells = None
new_page u act.OutOfPlace cells = None
new_page u act.Reset cells = None
new_page u (act.Prepare p g) cells = cond (begins_program p) (Some blank_page) None
new_page u (act.Status b) cells = cond (ready b) (copied_page u.busy cells) None
new_page u (act.Identify bs) cells = None
new_page u (act.Read x) cells = None
new_page u (act.Data w c b) cells = None
new_page u (act.Erase w) cells = None
new_page u (act.Load w s c b) cells = None
new_page u (act.Program w c f) cells = None

-- a byte that it puts there
abbrev pub loaded_by : Act → List ℕ → List ℕ
loaded_by act.WhileBusy page = page
loaded_by act.OutOfPlace page = page
loaded_by act.Reset page = page
loaded_by (act.Prepare p g) page = page
loaded_by (act.Status b) page = page
loaded_by (act.Identify bs) page = page
loaded_by (act.Read x) page = page
loaded_by (act.Data w c b) page = page
loaded_by (act.Erase w) page = page
loaded_by (act.Load w s c b) page = loaded page c b
loaded_by (act.Program w c f) page = page

abbrev pub page_by : Option (List ℕ) → Act → List ℕ → List ℕ
page_by None a page = loaded_by a page
page_by (Some new) a page = new

abbrev pub page_after : BusState → Act → List ℕ → List ℕ → List ℕ
page_after u a cells page = page_by (new_page u a cells) a page

-- the status byte of a block: C0h where the list has none
abbrev pub status_of : List ℕ → ℕ → ℕ
status_of statuses b = slice_index_or statuses b 0xC0

-- after a program or an erase the status is the block's own, else C0h
abbrev pub status_after : List ℕ → Act → ℕ → ℕ
status_after statuses act.WhileBusy s = s
status_after statuses act.OutOfPlace s = s
status_after statuses act.Reset s = 0xC0
status_after statuses (act.Prepare p g) s = s
status_after statuses (act.Status b) s = s
status_after statuses (act.Identify bs) s = s
status_after statuses (act.Read x) s = 0xC0
status_after statuses (act.Data w c b) s = s
status_after statuses (act.Erase w) s = status_of statuses (block_of w)
status_after statuses (act.Load w s c b) t = t
status_after statuses (act.Program w c f) s = status_of statuses (block_of w)

abbrev pub remembers : List ℕ → BusState → Act → Memory → Memory
remembers statuses u a m = record { cells = cells_after a m.page m.cells; page = page_after u a m.cells m.page; status = status_after statuses a m.status }

-- a byte of the part's identity
abbrev pub identity_byte : Part → ℕ → ℕ
identity_byte p k = slice_index_or (identity_of p) k 0xFF

-- the byte that the chip gives
abbrev pub register_byte : Option PageRead → List ℕ → ℕ
register_byte None cells = 0xFF
register_byte (Some x) cells = cond (in_page x.column) (cell_at cells (cell_of x.row.number x.column.number)) 0xFF

abbrev pub answer_in : Part → Option PageRead → Memory → Phase → ℕ
answer_in p r m phase.Quiet = 0xFF
answer_in p r m phase.Status = m.status
answer_in p r m phase.Output = register_byte r m.cells
answer_in p r m phase.Identity = 0xFF
answer_in p r m (phase.IdentityBytes g) = identity_byte p g.count
answer_in p r m phase.ReadSetup = register_byte r m.cells
answer_in p r m (phase.Addressing s g) = 0xFF
answer_in p r m (phase.Addressed s c w) = 0xFF
answer_in p r m (phase.Loading w s n) = 0xFF

abbrev pub answer : Part → BusState → Memory → ℕ
answer p u m = answer_in p u.register m u.phase

-- a chip and its reader, over one cycle
pub record Chip : Type 0 where
  pub reader : Reader
  pub memory : Memory

unfoldable pub chip_step : List ℕ → Chip → Cycle → Chip
chip_step statuses k c = record { reader = step k.reader c; memory = remembers statuses k.reader.bus (act_of k.reader.bus c) k.memory }

abbrev pub chip_steps : List ℕ → Chip → List Cycle → Chip
chip_steps statuses k cs = foldl (chip_step statuses) k cs

-- a chip that has done nothing yet
abbrev pub first_chip : ℕ → List ℕ → Chip
first_chip n cells = record {
  reader = record { bus = first_bus; blocks = replicate n first_record };
  memory = record { cells = cells; page = blank_page; status = 0xC0 };
}

-- the reader has heard of no other part than this: so it is from the first cycle on
abbrev pub same_part : Part → Part → Bool
same_part OneGbit OneGbit = true
same_part OneGbit TwoGbit = false
same_part TwoGbit OneGbit = false
same_part TwoGbit TwoGbit = true

abbrev pub own_part : Part → Option Part → Bool
own_part p None = true
own_part p (Some q) = same_part p q

-- the first n identity bytes of the part, and nought in the places of those to come
abbrev pub heard : Part → ℕ → List ℕ
heard p n =
    cond (n == 0) (0 ∷ 0 ∷ 0 ∷ 0 ∷ 0 ∷ [])
    (cond (n == 1) (identity_byte p 0 ∷ 0 ∷ 0 ∷ 0 ∷ 0 ∷ [])
    (cond (n == 2) (identity_byte p 0 ∷ identity_byte p 1 ∷ 0 ∷ 0 ∷ 0 ∷ [])
    (cond (n == 3) (identity_byte p 0 ∷ identity_byte p 1 ∷ identity_byte p 2 ∷ 0 ∷ 0 ∷ [])
    (identity_byte p 0 ∷ identity_byte p 1 ∷ identity_byte p 2 ∷ identity_byte p 3 ∷ 0 ∷ []))))

unfoldable pub own_given : Part → Given → Bool
own_given p g = nat_lt g.count 5 && bytes_eq g.bytes (heard p g.count)

abbrev pub own_phase : Part → Phase → Bool
own_phase p phase.Quiet = true
own_phase p phase.Status = true
own_phase p phase.Output = true
own_phase p phase.Identity = true
own_phase p (phase.IdentityBytes g) = own_given p g
own_phase p phase.ReadSetup = true
own_phase p (phase.Addressing s g) = true
own_phase p (phase.Addressed s c w) = true
own_phase p (phase.Loading w s n) = true

abbrev pub own : Part → BusState → Bool
own p u = own_part p u.part && own_phase p u.phase

-- a chip that was lent a block record for each block of its part has room
abbrev pub enough : Part → ℕ → Bool
enough p n = nat_le (blocks_of p) n

abbrev pub room_for : Part → ℕ → ℕ
room_for p n = cond (enough p n) 65535 0
