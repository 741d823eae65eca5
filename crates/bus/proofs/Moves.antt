-- Where the bus stands after an act.
use Rattle.std.proofs.Common.{◌≡◌, ℕ, ◌<◌, ◌≤◌, Some, Option, arith}
use Rattle.flash.specs.declared.address.Column.{Column}
use Rattle.flash.specs.declared.address.Row.{Row}
use Rattle.flash.specs.declared.part.Part.{Part}
use Rattle.flash.specs.declared.record.Pages.{Pages}
use Rattle.flash.specs.declared.record.Pages.TheVariants.{Stale}
use Rattle.flash.specs.Addresses.{block_of}
use Rattle.bus.specs.Bus.{moved}
use Rattle.bus.specs.States.{blocks_in, allowed_in}
use Rattle.bus.specs.declared.act.Act.{Act}
use Rattle.bus.specs.declared.act.Act.TheVariants as act
use Rattle.bus.specs.declared.state.BusState.{BusState}
use Rattle.bus.specs.declared.state.Work.TheVariants as work
use Rattle.bus.specs.declared.state.Phase.TheVariants as phase
use Rattle.bus.specs.declared.state.PageRead.{PageRead}
use Rattle.bus.specs.declared.state.Setup.{Setup}

module _ (u : BusState) (a : Act) where
  pub part_stays : (p : Part) → u.part ≡ Some p → (moved u a).part ≡ Some p
  part_stays p e = grind arith

  pub breaches_stay : (moved u a).breaches ≡ u.breaches
  breaches_stay = grind arith

  pub blocks_rise : blocks_in u.part ≤ blocks_in (moved u a).part
  blocks_rise = grind (arith, part_stays)

  pub allowed_rises : allowed_in u.part ≤ allowed_in (moved u a).part
  allowed_rises = grind (arith, part_stays)

  -- a row that stands given was so before the act, or is given by it
  pub addressed : (s : Setup) (k : Column) (w : Row) (n : ℕ)
      → (u.phase ≡ phase.Addressed s k w → block_of w < n)
      → ((g : Option PageRead) → a ≡ act.Prepare (phase.Addressed s k w) g → block_of w < n)
      → (moved u a).phase ≡ phase.Addressed s k w → block_of w < n
  addressed s k w n before by e = grind arith

  -- an erase that is busy was so before the act, or begins with it
  pub erasing : (b : ℕ) (q : Pages)
      → (u.busy ≡ Some (work.Erase b) → q ≡ Stale)
      → ((w : Row) → a ≡ act.Erase w → block_of w ≡ b → q ≡ Stale)
      → (moved u a).busy ≡ Some (work.Erase b) → q ≡ Stale
  erasing b q before by e = grind arith
