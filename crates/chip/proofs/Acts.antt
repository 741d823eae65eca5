-- Which acts there are, by where the bus stands.
use Rattle.std.proofs.Common.{◌≡◌, ℕ, ◌<◌, Bool, true, false, ◌⊎◌, List, [], Some, None, Option, inl, inr, arith}
use Rattle.std.proofs.lemmas.Bool.{both_ways}
use Rattle.std.proofs.lemmas.Bool.Decides.{nat_tests}
use Rattle.flash.specs.Opcodes.{opcode_of}
use Rattle.flash.specs.declared.address.Column.{Column}
use Rattle.flash.specs.declared.address.Row.{Row}
use Rattle.flash.specs.declared.cycle.Cycle.{Cycle}
use Rattle.flash.specs.declared.cycle.Kind.{Kind}
use Rattle.flash.specs.declared.cycle.Kind.TheVariants.{Command, Address, DataIn, DataOut}
use Rattle.flash.specs.declared.opcode.Opcode.{Opcode}
use Rattle.bus.specs.Acts.{act_of, command, commanded, when_idle, address, data_in, data_out}
use Rattle.bus.specs.Bus.{moved}
use Rattle.bus.specs.States.{copy_up}
use Rattle.bus.specs.declared.act.Act.{Act}
use Rattle.bus.specs.declared.act.Act.TheVariants as act
use Rattle.bus.specs.declared.act.Confirm.{Confirm}
use Rattle.bus.specs.declared.act.Confirm.TheVariants as confirm
use Rattle.bus.specs.declared.state.BusState.{BusState}
use Rattle.bus.specs.declared.state.Phase.{Phase}
use Rattle.bus.specs.declared.state.Phase.TheVariants as phase
use Rattle.bus.specs.declared.state.PageRead.{PageRead}
use Rattle.bus.specs.declared.state.Setup.TheVariants as setup
use Rattle.events.specs.Events.{hand_after}
use Rattle.chip.specs.Chips.{begins_program}
use Rattle.chip.specs.Remembers.{is_copy}
use Rattle.chip.specs.Waits.{address_for, loads, given}

-- a confirm or a byte in; a byte out
abbrev pub ends : Act → Bool
ends act.WhileBusy = false
ends act.OutOfPlace = false
ends act.Reset = false
ends (act.Prepare p g) = false
ends (act.Status b) = false
ends (act.Identify bs) = false
ends (act.Read x) = true
ends (act.Data w c b) = false
ends (act.Erase w) = true
ends (act.Load w s c b) = true
ends (act.Program w c f) = true

abbrev pub outs : Act → Bool
outs act.WhileBusy = false
outs act.OutOfPlace = false
outs act.Reset = false
outs (act.Prepare p g) = false
outs (act.Status b) = true
outs (act.Identify bs) = true
outs (act.Read x) = false
outs (act.Data w c b) = true
outs (act.Erase w) = false
outs (act.Load w s c b) = false
outs (act.Program w c f) = false

-- the column of the next byte in, or 0
abbrev pub next_in : Phase → Column
next_in phase.Quiet = record { number = 0 }
next_in phase.Status = record { number = 0 }
next_in phase.Output = record { number = 0 }
next_in phase.Identity = record { number = 0 }
next_in (phase.IdentityBytes g) = record { number = 0 }
next_in phase.ReadSetup = record { number = 0 }
next_in (phase.Addressing s g) = record { number = 0 }
next_in (phase.Addressed s k w) = record { number = 0 }
next_in (phase.Loading w s n) = n

-- what holds of the act of each command, of a byte that is no command, of an address byte, of a byte in
-- and of a byte out, holds of every act
module _ (u : BusState) (P : Act → Type 0) where
  pub command_ways : (o : Option Opcode) → ((o : Opcode) → P (commanded u o)) → P (when_idle u act.OutOfPlace) → P (command u o)
  command_ways None known unknown = unknown
  command_ways (Some o) known unknown = known o

  ways : (k : Kind) (b : ℕ) → ((o : Opcode) → P (commanded u o)) → P (when_idle u act.OutOfPlace) → P (address u u.phase b)
      → P (data_in u.phase b) → P (data_out u u.phase b) → P (act_of u (record { kind = k; byte = b }))
  ways Command b commands unknown addresses ins outs = command_ways (opcode_of b) commands unknown
  ways Address b commands unknown addresses ins outs = addresses
  ways DataIn b commands unknown addresses ins outs = ins
  ways DataOut b commands unknown addresses ins outs = outs

-- an act that prepares a phase: which one, with which register, after which
pub record Prepared (u : BusState) (p : Phase) (g : Option PageRead) : Type 0 where
  pub before : loads u.phase ≡ false
  pub after : loads p ≡ false
  pub program : address_for p ≡ Some setup.Program → begins_program p ≡ false → address_for u.phase ≡ Some setup.Program
  pub copy : address_for p ≡ Some setup.Copy → (address_for u.phase ≡ Some setup.Copy) ⊎ (copy_up u.register ≡ true)
  pub empty : given p ≡ true → given u.phase ≡ false → g ≡ None
  pub same : given p ≡ true → given u.phase ≡ true → g ≡ u.register
  pub up : copy_up g ≡ true → copy_up u.register ≡ true
  pub still : copy_up g ≡ true → begins_program p ≡ false

-- where a byte in goes
pub record Loaded (q : Phase) (w : Row) (s n : Column) : Type 0 where
  pub column : n.number < 2112
  pub begins : loads q ≡ false → address_for q ≡ Some setup.Program
  pub start : loads q ≡ false → n ≡ s
  pub goes_on : loads q ≡ true → q ≡ phase.Loading w s n

module _ (u : BusState) (o : Opcode) where
  ends_command : ends (commanded u o) ≡ true → given u.phase ≡ true
  ends_command h = grind (arith, nat_tests)

  outs_command : outs (commanded u o) ≡ true → given u.phase ≡ false
  outs_command h = grind (arith, nat_tests)

  module _ (w : Row) (s : Column) where
    copy_command : commanded u o ≡ act.Program w s confirm.Copy → address_for u.phase ≡ Some setup.Copy
    copy_command e = grind (arith, nat_tests)

    program_command : (f : Confirm) → is_copy f ≡ false → commanded u o ≡ act.Program w s f → u.phase ≡ phase.Loading w s (next_in u.phase)
    program_command f h e = grind (arith, nat_tests)

  module _ (p : Phase) (g : Option PageRead) (e : commanded u o ≡ act.Prepare p g) where
    command_program : address_for p ≡ Some setup.Program → begins_program p ≡ true
    command_program h = grind (arith, nat_tests)

    command_copy : address_for p ≡ Some setup.Copy → copy_up u.register ≡ true
    command_copy h = grind (arith, nat_tests)

    command_empty : given p ≡ true → g ≡ None
    command_empty h = grind (arith, nat_tests)

    command_quiet : given u.phase ≡ false
    command_quiet = grind (arith, nat_tests)

    prepared_command : Prepared u p g
    prepared_command = record {
      before = grind (arith, nat_tests);
      after = grind (arith, nat_tests);
      program = λ h b. absurd (both_ways (begins_program p) b (command_program h));
      copy = λ h. inr (command_copy h);
      empty = λ h b. command_empty h;
      same = λ h b. absurd (both_ways (given u.phase) command_quiet b);
      up = λ h. grind (arith, nat_tests);
      still = λ h. grind (arith, nat_tests);
    }

module _ (u : BusState) (p : Phase) (g : Option PageRead) (b : ℕ) where
  prepared_address : address u u.phase b ≡ act.Prepare p g → Prepared u p g
  prepared_address e = record {
    before = grind (arith, nat_tests);
    after = grind (arith, nat_tests);
    program = λ h b. grind (arith, nat_tests);
    copy = λ h. inl (grind (arith, nat_tests));
    empty = λ h b. grind (arith, nat_tests);
    same = λ h b. grind (arith, nat_tests);
    up = λ h. grind (arith, nat_tests);
    still = λ h. grind (arith, nat_tests);
  }

  prepared_out : data_out u u.phase b ≡ act.Prepare p g → Prepared u p g
  prepared_out e = record {
    before = grind (arith, nat_tests);
    after = grind (arith, nat_tests);
    program = λ h b. grind (arith, nat_tests);
    copy = λ h. inl (grind (arith, nat_tests));
    empty = λ h b. grind (arith, nat_tests);
    same = λ h b. grind (arith, nat_tests);
    up = λ h. grind (arith, nat_tests);
    still = λ h. grind (arith, nat_tests);
  }

loaded_in : (q : Phase) (w : Row) (s n : Column) (d b : ℕ) → data_in q d ≡ act.Load w s n b → Loaded q w s n
loaded_in q w s n d b e = record { column = grind (arith, nat_tests); begins = λ h. grind (arith, nat_tests); start = λ h. grind (arith, nat_tests); goes_on = λ h. grind (arith, nat_tests) }

module _ (u : BusState) (c : Cycle) where
  pub prepared : (p : Phase) (g : Option PageRead) → act_of u c ≡ act.Prepare p g → Prepared u p g
  prepared p g =
      ways u (λ a. a ≡ act.Prepare p g → Prepared u p g) c.kind c.byte
      (λ o. prepared_command u o p g) (λ e. absurd (grind (arith, nat_tests))) (prepared_address u p g c.byte) (λ e. absurd (grind (arith, nat_tests))) (prepared_out u p g c.byte)

  pub ends_given : ends (act_of u c) ≡ true → given u.phase ≡ true
  ends_given =
      ways u (λ a. ends a ≡ true → given u.phase ≡ true) c.kind c.byte
      (ends_command u) (λ h. grind (arith, nat_tests)) (λ h. grind (arith, nat_tests)) (λ h. grind (arith, nat_tests)) (λ h. grind (arith, nat_tests))

  pub outs_given : outs (act_of u c) ≡ true → given u.phase ≡ false
  outs_given =
      ways u (λ a. outs a ≡ true → given u.phase ≡ false) c.kind c.byte
      (outs_command u) (λ h. grind (arith, nat_tests)) (λ h. grind (arith, nat_tests)) (λ h. grind (arith, nat_tests)) (λ h. grind (arith, nat_tests))

  -- bytes in hand are gone where no more may come
  pub hand_none : (hand : List ℕ) → (loads u.phase ≡ false → hand ≡ []) → loads (moved u (act_of u c)).phase ≡ false → hand_after (act_of u c) hand ≡ []
  hand_none hand h e = grind (arith, nat_tests)

  module _ (w : Row) (s : Column) where
    pub loaded_by_lem : (n : Column) (b : ℕ) → act_of u c ≡ act.Load w s n b → Loaded u.phase w s n
    loaded_by_lem n b =
        ways u (λ a. a ≡ act.Load w s n b → Loaded u.phase w s n) c.kind c.byte
        (λ o e. absurd (grind (arith, nat_tests))) (λ e. absurd (grind (arith, nat_tests))) (λ e. absurd (grind (arith, nat_tests)))
        (loaded_in u.phase w s n c.byte b) (λ e. absurd (grind (arith, nat_tests)))

    -- the 10h of a copy meets its address, and another program's 10h or 15h its bytes
    pub copy_given : act_of u c ≡ act.Program w s confirm.Copy → address_for u.phase ≡ Some setup.Copy
    copy_given =
        ways u (λ a. a ≡ act.Program w s confirm.Copy → address_for u.phase ≡ Some setup.Copy) c.kind c.byte
        (λ o. copy_command u o w s) (λ e. grind (arith, nat_tests)) (λ e. grind (arith, nat_tests)) (λ e. grind (arith, nat_tests)) (λ e. grind (arith, nat_tests))

    pub program_given : (f : Confirm) → is_copy f ≡ false → act_of u c ≡ act.Program w s f → u.phase ≡ phase.Loading w s (next_in u.phase)
    program_given f h =
        ways u (λ a. a ≡ act.Program w s f → u.phase ≡ phase.Loading w s (next_in u.phase)) c.kind c.byte
        (λ o. program_command u o w s f h) (λ e. grind (arith, nat_tests)) (λ e. grind (arith, nat_tests)) (λ e. grind (arith, nat_tests)) (λ e. grind (arith, nat_tests))
