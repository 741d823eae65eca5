-- A chip's bus hears of no other part: the chip answers its own identity.
use Rattle.std.proofs.Common.{◌≡◌, ℕ, ◌≤◌, true, List, Some, None, Option, refl, arith}
use Rattle.std.proofs.lemmas.Bool.Decides.{nat_tests}
use Rattle.flash.specs.Opcodes.{opcode_of}
use Rattle.flash.specs.Parts.{blocks_of, identity_of, identified}
use Rattle.flash.specs.declared.opcode.Opcode.{Opcode}
use Rattle.flash.specs.declared.opcode.Opcode.TheVariants as op
use Rattle.flash.specs.declared.part.Part.{Part}
use Rattle.flash.specs.declared.part.Part.TheVariants.{OneGbit, TwoGbit}
use Rattle.bus.specs.Acts.{act_of, identity, when_idle, commanded, address, data_in, data_out}
use Rattle.bus.specs.Bus.{moved, part_after}
use Rattle.bus.specs.States.{blocks_in, plus, nothing_given}
use Rattle.bus.specs.declared.act.Act.TheVariants as act
use Rattle.bus.specs.declared.state.BusState.{BusState}
use Rattle.bus.specs.declared.state.Given.{Given}
use Rattle.port.specs.Meanings.{host_kind, driven, gave}
use Rattle.port.specs.declared.port.HostCycle.{HostCycle}
use Rattle.port.specs.declared.port.HostKind.{HostKind}
use Rattle.port.specs.declared.port.HostKind.TheVariants as host
use Rattle.bus.specs.declared.state.Phase.TheVariants as phase
use Rattle.chip.specs.Chips.{Memory, answer, identity_byte, own_given, own_part, own}
use Rattle.chip.proofs.Acts.{command_ways}
use Rattle.chip.proofs.Steps.{next_own, last_own}

own_none : (p : Part) → own_given p nothing_given ≡ true
unfolding own_given
own_none OneGbit = refl
own_none TwoGbit = refl

own_learnt : (p : Part) → own_part p (identified (identity_of p)) ≡ true
own_learnt OneGbit = refl
own_learnt TwoGbit = refl

learns_own : (p : Part) (o : Option Part) (bs : List ℕ) → own_part p o ≡ true → bs ≡ identity_of p → own_part p (part_after o bs) ≡ true
learns_own p None bs h e = rw e (own_learnt p)
learns_own p (Some q) bs h e = h

module _ (p : Part) (u : BusState) (h : own p u ≡ true) where
  command_own : (o : Opcode) → own p (moved u (commanded u o)) ≡ true
  command_own op.Reset = grind (arith, nat_tests)
  command_own op.ReadStatus = grind (arith, nat_tests)
  command_own op.ReadId = grind (arith, nat_tests)
  command_own op.Read = grind (arith, nat_tests)
  command_own op.ReadConfirm = grind (arith, nat_tests)
  command_own op.CopyReadConfirm = grind (arith, nat_tests)
  command_own op.Erase = grind (arith, nat_tests)
  command_own op.EraseConfirm = grind (arith, nat_tests)
  command_own op.Program = grind (arith, nat_tests)
  command_own op.CopyProgram = grind (arith, nat_tests)
  command_own op.ProgramConfirm = grind (arith, nat_tests)
  command_own op.CacheConfirm = grind (arith, nat_tests)

  unknown_own : own p (moved u (when_idle u act.OutOfPlace)) ≡ true
  unknown_own = grind (arith, nat_tests)

  address_own : (b : ℕ) → own p (moved u (address u u.phase b)) ≡ true
  address_own b = grind (arith, nat_tests, own_none)

  data_own : (b : ℕ) → own p (moved u (data_in u.phase b)) ≡ true
  data_own b = grind (arith, nat_tests)

  identity_own : (g : Given) → u.phase ≡ phase.IdentityBytes g → own p (moved u (identity u (plus g (identity_byte p g.count)))) ≡ true
  identity_own g e = grind (arith, nat_tests, next_own, last_own, learns_own)

  byte_own : (m : Memory) → own p (moved u (data_out u u.phase (answer p u m))) ≡ true
  byte_own m = grind (arith, nat_tests, identity_own)

-- what the host puts, and what the chip itself gives, keeps its bus its own
pub put_own : (p : Part) (u : BusState) (c : HostCycle) → own p u ≡ true → own p (moved u (act_of u (driven c))) ≡ true
put_own p u c h = host_own c.kind
  where
    host_own : (k : HostKind) → own p (moved u (act_of u (record { kind = host_kind k; byte = c.byte }))) ≡ true
    host_own host.Command = command_ways u (λ a. own p (moved u a) ≡ true) (opcode_of c.byte) (command_own p u h) (unknown_own p u h)
    host_own host.Address = address_own p u h c.byte
    host_own host.DataIn = data_own p u h c.byte

pub take_own : (p : Part) (u : BusState) (m : Memory) → own p u ≡ true → own p (moved u (act_of u (gave (answer p u m)))) ≡ true
take_own p u m h = byte_own p u h m

-- a bus that is its own knows no part with more blocks
pub own_blocks : (p : Part) (o : Option Part) → own_part p o ≡ true → blocks_in o ≤ blocks_of p
own_blocks p o h = grind arith
