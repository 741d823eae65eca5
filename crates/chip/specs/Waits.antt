-- What waits in the page buffer, by where the bus stands.
use Rattle.std.specs.Prelude.{◌≡◌, ℕ, ◌+◌, ◌-◌, ◌<◌, ◌≤◌, Bool, true, false, cond, ◌||◌, List, [], length, is_some, Some, None, Option, slice_index}
use Rattle.flash.specs.declared.address.Column.{Column}
use Rattle.flash.specs.declared.address.Row.{Row}
use Rattle.bus.specs.States.{copy_up}
use Rattle.bus.specs.declared.state.BusState.{BusState}
use Rattle.bus.specs.declared.state.PageRead.{PageRead}
use Rattle.bus.specs.declared.state.Work.TheVariants as work
use Rattle.bus.specs.declared.state.Phase.{Phase}
use Rattle.bus.specs.declared.state.Phase.TheVariants as phase
use Rattle.bus.specs.declared.state.Setup.{Setup}
use Rattle.bus.specs.declared.state.Setup.TheVariants as setup
use Rattle.chip.specs.Cells.{cell_at, among, blank_page, row_held}

-- what an address that is being given, or was given, is for
abbrev pub address_for : Phase → Option Setup
address_for phase.Quiet = None
address_for phase.Status = None
address_for phase.Output = None
address_for phase.Identity = None
address_for (phase.IdentityBytes g) = None
address_for phase.ReadSetup = None
address_for (phase.Addressing s g) = Some s
address_for (phase.Addressed s c w) = Some s
address_for (phase.Loading w s n) = None

-- bytes to program are being given
abbrev pub loads : Phase → Bool
loads phase.Quiet = false
loads phase.Status = false
loads phase.Output = false
loads phase.Identity = false
loads (phase.IdentityBytes g) = false
loads phase.ReadSetup = false
loads (phase.Addressing s g) = false
loads (phase.Addressed s c w) = false
loads (phase.Loading w s n) = true

-- an address is being given, or was, or bytes are
abbrev pub given : Phase → Bool
given p = is_some (address_for p) || loads p

-- a page that is blank but for the bytes in hand, from the column s on; the next goes to n
pub record Laid (page hand : List ℕ) (s n : ℕ) : Type 0 where
  pub next : n ≡ s + length hand
  pub fits : n ≤ 2112
  pub bytes : (i : ℕ) → i < 2112 → slice_index page i ≡ cond (among s (length hand) i) (slice_index hand (i - s)) 0xFF

-- what waits there: from 80h on a blank page, with the bytes in hand laid over it; from the end of a
-- copy read on, as long as its copy may begin or has begun, what the source row holds. A register that
-- a copy could begin from is gone once an address is being given, so no confirm comes in between
pub record Waits (u : BusState) (cells page hand : List ℕ) (source : ℕ) : Type 0 where
  pub size : length page ≡ 2112
  pub cell : (i : ℕ) → cell_at cells i < 256
  pub blank : address_for u.phase ≡ Some setup.Program → page ≡ blank_page
  pub laid : (w : Row) (s n : Column) → u.phase ≡ phase.Loading w s n → Laid page hand s.number n.number
  pub none : loads u.phase ≡ false → hand ≡ []
  pub empty : given u.phase ≡ true → u.register ≡ None
  pub reading : (x : PageRead) → u.busy ≡ Some (work.Read x) → x.copy ≡ true → source ≡ x.row.number
  pub copied : copy_up u.register ≡ true → page ≡ row_held source cells
  pub copies : address_for u.phase ≡ Some setup.Copy → page ≡ row_held source cells
