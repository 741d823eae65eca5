-- What one cycle may do to a reader, in the words of the bus. In each law `r` is the reader before
-- the cycle `c`, and `s` the reader after it.
use Rattle.std.specs.Prelude.{◌≡◌, ℕ, ◌+◌, ◌<◌, ◌≤◌, min, Bool, true, false, not, ◌&&◌, ◌||◌, ◌⊎◌, List, [], ◌∷◌, length, Some, None, ◌==◌, ◌≢◌, nat_eq, slice_index_or}
use Rattle.flash.specs.Addresses.{block_of}
use Rattle.flash.specs.Records.{first_record}
use Rattle.flash.specs.Statuses.{ready, verdict_of}
use Rattle.flash.specs.declared.address.Column.{Column}
use Rattle.flash.specs.declared.address.Row.{Row}
use Rattle.flash.specs.declared.cycle.Cycle.{Cycle}
use Rattle.flash.specs.declared.cycle.Kind.TheVariants.{Command, Address, DataIn, DataOut}
use Rattle.flash.specs.declared.part.Part.{Part}
use Rattle.flash.specs.declared.record.BlockRecord.{BlockRecord}
use Rattle.flash.specs.declared.record.Pages.{Pages}
use Rattle.flash.specs.declared.record.Pages.TheVariants.{Stale, Blank, Last}
use Rattle.flash.specs.declared.status.Verdict.TheVariants.{Good}
use Rattle.bus.specs.Acts.{act_of}
use Rattle.bus.specs.Breaches.{named}
use Rattle.bus.specs.Bus.{Reader, breaches_of, steps}
use Rattle.bus.specs.States.{allowed_in, blocks_in, idle, under_way}
use Rattle.bus.specs.declared.breach.Breach.{Breach}
use Rattle.bus.specs.declared.breach.Breach.TheVariants as breach
use Rattle.bus.specs.declared.state.Work.TheVariants as work
use Rattle.bus.specs.declared.state.Phase.{Phase}
use Rattle.bus.specs.declared.state.Phase.TheVariants as phase
use Rattle.bus.specs.declared.state.Setup.{Setup}
use Rattle.bus.specs.declared.state.Setup.TheVariants as setup

-- the rules that the cycle breaks, by name
abbrev pub broken : Reader → Cycle → List Breach
broken r c = named (breaches_of r (act_of r.bus c))

-- what is known of a block
abbrev pub block_in : Reader → ℕ → BlockRecord
block_in r b = slice_index_or r.blocks b first_record

-- the cycle is this command
abbrev pub is_command : Cycle → ℕ → Bool
is_command c b = elim c.kind [ Command ↦ nat_eq c.byte b | Address ↦ false | DataIn ↦ false | DataOut ↦ false ]

abbrev pub any_command : Cycle → Bool
any_command c = elim c.kind [ Command ↦ true | Address ↦ false | DataIn ↦ false | DataOut ↦ false ]

-- nothing has changed but the count of breaches, which is one higher, up to 65,535
pub record OnlyCounted (r s : Reader) : Type 0 where
  pub part : s.bus.part ≡ r.bus.part
  pub phase : s.bus.phase ≡ r.bus.phase
  pub busy : s.bus.busy ≡ r.bus.busy
  pub register : s.bus.register ≡ r.bus.register
  pub chain : s.bus.chain ≡ r.bus.chain
  pub blocks : s.blocks ≡ r.blocks
  pub breaches : s.bus.breaches ≡ min 65535 (r.bus.breaches + 1)

-- a cycle that is while busy or out of place breaks no other rule, and changes nothing but the count
pub record Misfit (r s : Reader) (c : Cycle) : Type 0 where
  pub busy : (breaches_of r (act_of r.bus c)).while_busy ≡ true → (broken r c ≡ breach.WhileBusy ∷ []) × OnlyCounted r s
  pub place : (breaches_of r (act_of r.bus c)).out_of_place ≡ true → (broken r c ≡ breach.OutOfPlace ∷ []) × OnlyCounted r s

-- while busy is: any command but 70h and FFh, to a chip that is busy
abbrev pub BusyMeans : Reader → Cycle → Type 0
BusyMeans r c =
    (breaches_of r (act_of r.bus c)).while_busy ≡ (any_command c && (not (is_command c 0x70 || is_command c 0xFF) && not (idle r.bus.busy)))

-- breaches rise by the number of rules broken, up to 65,535, and never fall
pub record Counted (r s : Reader) (c : Cycle) : Type 0 where
  pub rises : s.bus.breaches ≡ min 65535 (r.bus.breaches + length (broken r c))
  pub least : r.bus.breaches ≤ 65535 → r.bus.breaches ≤ s.bus.breaches

-- FFh is always taken: no rule is broken, nothing is half given, no register, no chain, a reset is busy
pub record Dropped (r s : Reader) (c : Cycle) : Type 0 where
  pub taken : broken r c ≡ []
  pub phase : s.bus.phase ≡ phase.Quiet
  pub busy : s.bus.busy ≡ Some work.Reset
  pub register : s.bus.register ≡ None
  pub chain : s.bus.chain ≡ None

-- a cycle that may change a block's record: D0h, 10h, 15h or FFh, a status byte, a byte of the register
abbrev pub status_or_data : Phase → Bool
status_or_data phase.Quiet = false
status_or_data phase.Status = true
status_or_data phase.Output = true
status_or_data phase.Identity = false
status_or_data (phase.IdentityBytes g) = false
status_or_data phase.ReadSetup = true
status_or_data (phase.Addressing s g) = false
status_or_data (phase.Addressed s c w) = false
status_or_data (phase.Loading w s n) = false

abbrev pub may_change : Phase → Cycle → Bool
may_change p c = elim c.kind [
  | Command ↦ (c.byte == 0xD0) || (c.byte == 0x10 || (c.byte == 0x15 || c.byte == 0xFF))
  | Address ↦ false
  | DataIn ↦ false
  | DataOut ↦ status_or_data p
]

-- all records are as they were, or the cycle is such a one and all but one block's are
pub record OneBlock (r s : Reader) (b : ℕ) : Type 0 where
  pub others : (k : ℕ) → (k ≢ b) → block_in s k ≡ block_in r k

abbrev pub Records : Reader → Reader → Cycle → Type 0
Records r s c = (s.blocks ≡ r.blocks) ⊎ ((may_change r.bus.phase c ≡ true) × ((b : ℕ) × OneBlock r s b))

-- the part once known never changes
abbrev pub PartStays : Reader → Reader → Type 0
PartStays r s = (p : Part) → r.bus.part ≡ Some p → s.bus.part ≡ Some p

-- how often the last page of a block was programmed
abbrev pub count_of : Pages → ℕ
count_of Stale = 0
count_of Blank = 0
count_of (Last p n) = n

-- what holds of a reader in its first state and ever after: no page has more programs than the part
-- allows, a row that was given lies in the part, and a block that is being erased is stale
pub record Sound (r : Reader) : Type 0 where
  pub within : (b : ℕ) → count_of (block_in r b).pages ≤ allowed_in r.bus.part
  pub named : (s : Setup) (k : Column) (w : Row) → r.bus.phase ≡ phase.Addressed s k w → block_of w < blocks_in r.bus.part
  pub erasing : (b : ℕ) → r.bus.busy ≡ Some (work.Erase b) → (block_in r b).pages ≡ Stale

-- fresh pages stay fresh, and the last page is no lower
abbrev pub NoLower : Pages → Pages → Type 0
NoLower Stale q = ⊥
NoLower Blank Stale = ⊥
NoLower Blank Blank = Unit {0}
NoLower Blank (Last p n) = Unit {0}
NoLower (Last p n) Stale = ⊥
NoLower (Last p n) Blank = ⊥
NoLower (Last p n) (Last q m) = p ≤ q

abbrev pub is_fresh : Pages → Bool
is_fresh Stale = false
is_fresh Blank = true
is_fresh (Last p n) = true

-- D0h, with the address of a page of this block given for an erase
pub record EraseConfirmed (r : Reader) (c : Cycle) (b : ℕ) : Type 0 where
  pub command : is_command c 0xD0 ≡ true
  pub column : Column
  pub row : Row
  pub given : r.bus.phase ≡ phase.Addressed setup.Erase column row
  pub block : block_of row ≡ b

-- FFh, with a program, an erase or a chain of this block under way
pub record WorkCutOff (r : Reader) (c : Cycle) (b : ℕ) : Type 0 where
  pub command : is_command c 0xFF ≡ true
  pub work : under_way r.bus ≡ Some b

-- a ready status, its verdict good, that ends an erase of this block
pub record EraseEndedWell (r : Reader) (c : Cycle) (b : ℕ) : Type 0 where
  pub status : r.bus.phase ≡ phase.Status
  pub byte : c.kind ≡ DataOut
  pub erase : r.bus.busy ≡ Some (work.Erase b)
  pub ends : ready c.byte ≡ true
  pub good : verdict_of c.byte ≡ Good

-- a fresh block stays fresh with its last page no lower, or becomes stale in one of two ways; a
-- stale one stays stale, or becomes fresh without a page in one way
pub record Freshness (r s : Reader) (c : Cycle) : Type 0 where
  pub fresh : (b : ℕ) → is_fresh (block_in r b).pages ≡ true
      → NoLower (block_in r b).pages (block_in s b).pages
      ⊎ (((block_in s b).pages ≡ Stale) × (EraseConfirmed r c b ⊎ WorkCutOff r c b))
  pub stale : (b : ℕ) → (block_in r b).pages ≡ Stale
      → ((block_in s b).pages ≡ Stale) ⊎ (((block_in s b).pages ≡ Blank) × EraseEndedWell r c b)

-- one lawful step
pub record Lawful (r s : Reader) (c : Cycle) : Type 0 where
  pub misfit : Misfit r s c
  pub while_busy : BusyMeans r c
  pub counted : Counted r s c
  pub reset : is_command c 0xFF ≡ true → Dropped r s c
  pub records : Records r s c
  pub part : PartStays r s
  pub sound : Sound r → Sound s
  pub freshness : Sound r → Freshness r s c

-- sound now, and after any list of cycles
abbrev pub EverSound : Reader → Type 0
EverSound r = (cs : List Cycle) → Sound (steps r cs)
