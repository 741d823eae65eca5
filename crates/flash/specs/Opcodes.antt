-- The command bytes.
use Rattle.std.specs.Prelude.{◌≡◌, ℕ, cond, Some, None, Option, ◌==◌}
use Rattle.flash.specs.declared.opcode.Opcode.{Opcode}
use Rattle.flash.specs.declared.opcode.Opcode.TheVariants as op

abbrev pub byte_of : Opcode → ℕ
byte_of op.Reset = 0xFF
byte_of op.ReadStatus = 0x70
byte_of op.ReadId = 0x90
byte_of op.Read = 0x00
byte_of op.ReadConfirm = 0x30
byte_of op.CopyReadConfirm = 0x35
byte_of op.Erase = 0x60
byte_of op.EraseConfirm = 0xD0
byte_of op.Program = 0x80
byte_of op.CopyProgram = 0x85
byte_of op.ProgramConfirm = 0x10
byte_of op.CacheConfirm = 0x15

-- the command of a byte, if it is one
abbrev pub opcode_of : ℕ → Option Opcode
opcode_of b =
    cond (b == 0xFF) (Some op.Reset)
    (cond (b == 0x70) (Some op.ReadStatus)
    (cond (b == 0x90) (Some op.ReadId)
    (cond (b == 0x00) (Some op.Read)
    (cond (b == 0x30) (Some op.ReadConfirm)
    (cond (b == 0x35) (Some op.CopyReadConfirm)
    (cond (b == 0x60) (Some op.Erase)
    (cond (b == 0xD0) (Some op.EraseConfirm)
    (cond (b == 0x80) (Some op.Program)
    (cond (b == 0x85) (Some op.CopyProgram)
    (cond (b == 0x10) (Some op.ProgramConfirm)
    (cond (b == 0x15) (Some op.CacheConfirm)
    None)))))))))))

-- the command that a byte was found to be has that byte
abbrev pub Named : Option Opcode → ℕ → Type 0
Named None b = Unit {0}
Named (Some o) b = b ≡ byte_of o
