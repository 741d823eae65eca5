-- What an act tells of its cycle, and of the phase that the cycle met.
use Rattle.std.proofs.Common.{◌≡◌, ℕ, ◌<◌, true, Some, Option, arith}
use Rattle.std.proofs.lemmas.Bool.Decides.{nat_tests}
use Rattle.flash.specs.Addresses.{block_of}
use Rattle.flash.specs.declared.address.Column.{Column}
use Rattle.flash.specs.declared.address.Row.{Row}
use Rattle.flash.specs.declared.cycle.Cycle.{Cycle}
use Rattle.flash.specs.declared.cycle.Kind.TheVariants.{Command, DataOut}
use Rattle.flash.specs.declared.opcode.Opcode.TheVariants as op
use Rattle.bus.specs.Laws.{BusyMeans, is_command, may_change}
use Rattle.bus.specs.Acts.{act_of, commanded, data_out}
use Rattle.bus.specs.Bus.{Reader, concerns}
use Rattle.bus.specs.States.{blocks_in}
use Rattle.bus.specs.declared.act.Act.TheVariants as act
use Rattle.bus.specs.declared.state.BusState.{BusState}
use Rattle.bus.specs.declared.state.Phase.{Phase}
use Rattle.bus.specs.declared.state.Phase.TheVariants as phase
use Rattle.bus.specs.declared.state.PageRead.{PageRead}
use Rattle.bus.specs.declared.state.Setup.{Setup}
use Rattle.bus.specs.declared.state.Setup.TheVariants as setup

-- the column of an address that was given, or 0
abbrev column : Phase → Column
column phase.Quiet = record { number = 0 }
column phase.Status = record { number = 0 }
column phase.Output = record { number = 0 }
column phase.Identity = record { number = 0 }
column (phase.IdentityBytes g) = record { number = 0 }
column phase.ReadSetup = record { number = 0 }
column (phase.Addressing s g) = record { number = 0 }
column (phase.Addressed s k w) = k
column (phase.Loading w s n) = record { number = 0 }

-- D0h that erases meets the address of a row, and a status byte the phase after 70h
row_given : (u : BusState) (w : Row) → commanded u op.EraseConfirm ≡ act.Erase w → u.phase ≡ phase.Addressed setup.Erase (column u.phase) w
row_given u w e = grind arith

status_given : (u : BusState) (p : Phase) (d b : ℕ) → data_out u p d ≡ act.Status b → p ≡ phase.Status
status_given u p d b e = grind arith

pub busy_means : (r : Reader) (c : Cycle) → BusyMeans r c
busy_means r c = grind (arith, nat_tests)

module _ (u : BusState) (c : Cycle) where
  -- FFh, and nothing else, is a reset
  pub reset : is_command c 0xFF ≡ true → act_of u c ≡ act.Reset
  reset h = grind (arith, nat_tests)

  pub reset_command : act_of u c ≡ act.Reset → is_command c 0xFF ≡ true
  reset_command e = grind (arith, nat_tests)

  -- a cycle whose act concerns a block may change its record
  pub may : (b : ℕ) → concerns u (act_of u c) ≡ Some b → may_change u.phase c ≡ true
  may b e = grind (arith, nat_tests)

  erase_kind : (w : Row) → act_of u c ≡ act.Erase w → c.kind ≡ Command
  erase_kind w e = grind (arith, nat_tests)

  erase_byte : (w : Row) → act_of u c ≡ act.Erase w → c.byte ≡ 0xD0
  erase_byte w e = grind (arith, nat_tests)

  pub erase_command : (w : Row) → act_of u c ≡ act.Erase w → is_command c 0xD0 ≡ true
  erase_command w e = rw (erase_kind w e, erase_byte w e)

  pub erase_row : (w : Row) → act_of u c ≡ act.Erase w → u.phase ≡ phase.Addressed setup.Erase (column u.phase) w
  erase_row w e = row_given u w (rw (erase_kind w e, erase_byte w e) at e)

  pub status_kind : (b : ℕ) → act_of u c ≡ act.Status b → c.kind ≡ DataOut
  status_kind b e = grind (arith, nat_tests)

  pub status_byte : (b : ℕ) → act_of u c ≡ act.Status b → c.byte ≡ b
  status_byte b e = grind (arith, nat_tests)

  pub status_phase : (b : ℕ) → act_of u c ≡ act.Status b → u.phase ≡ phase.Status
  status_phase b e = status_given u u.phase c.byte b (rw (status_kind b e) at e)

  -- a row is taken only if it lies in the part
  pub row_in_part : (s : Setup) (k : Column) (w : Row) (g : Option PageRead) → act_of u c ≡ act.Prepare (phase.Addressed s k w) g → block_of w < blocks_in u.part
  row_in_part s k w g e = grind (arith, nat_tests)
