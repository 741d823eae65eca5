-- A poll: 70h, then status bytes until one is ready, n at most. The chip's replies are a list; past its
-- end each reply is FFh.
use Rattle.std.specs.Prelude.{ℕ, zero, suc, cond, List, [], ◌∷◌, map, Some, None, Option}
use Rattle.flash.specs.Statuses.{ready}
use Rattle.flash.specs.Opcodes.{byte_of}
use Rattle.flash.specs.declared.cycle.Cycle.{Cycle}
use Rattle.flash.specs.declared.cycle.Kind.TheVariants.{Command}
use Rattle.flash.specs.declared.opcode.Opcode.{Opcode}
use Rattle.flash.specs.declared.opcode.Opcode.TheVariants as op
use Rattle.port.specs.Meanings.{gave}

-- the status that ends the poll, if one does
abbrev pub polled : ℕ → List ℕ → Option ℕ
polled zero rs = None
polled (suc n) [] = Some 0xFF
polled (suc n) (s ∷ rs) = cond (ready s) (Some s) (polled n rs)

-- the status bytes that the poll takes
abbrev pub taken : ℕ → List ℕ → List ℕ
taken zero rs = []
taken (suc n) [] = 0xFF ∷ []
taken (suc n) (s ∷ rs) = s ∷ cond (ready s) [] (taken n rs)

-- the replies that are left after it
abbrev pub left : ℕ → List ℕ → List ℕ
left zero rs = rs
left (suc n) [] = []
left (suc n) (s ∷ rs) = cond (ready s) rs (left n rs)

-- the first n replies
abbrev pub first_of : ℕ → List ℕ → List ℕ
first_of zero rs = []
first_of (suc n) [] = 0xFF ∷ first_of n []
first_of (suc n) (b ∷ rs) = b ∷ first_of n rs

abbrev pub command : Opcode → Cycle
command o = record { kind = Command; byte = byte_of o }

abbrev pub poll_cycles : ℕ → List ℕ → List Cycle
poll_cycles n rs = command op.ReadStatus ∷ map gave (taken n rs)
