-- The cycles of each command sequence.
use Rattle.std.specs.Prelude.{ℕ, ◌-◌, List, [], ◌∷◌, ◌++◌, map, Some, None, Option}
use Rattle.flash.specs.Addresses.{low_bytes}
use Rattle.flash.specs.Parts.{address_cycles}
use Rattle.flash.specs.declared.address.Column.{Column}
use Rattle.flash.specs.declared.address.Row.{Row}
use Rattle.flash.specs.declared.cycle.Cycle.{Cycle}
use Rattle.flash.specs.declared.opcode.Opcode.{Opcode}
use Rattle.flash.specs.declared.opcode.Opcode.TheVariants as op
use Rattle.flash.specs.declared.part.Part.{Part}
use Rattle.bus.specs.declared.act.Confirm.{Confirm}
use Rattle.bus.specs.declared.act.Confirm.TheVariants as confirm
use Rattle.port.specs.Meanings.{driven, gave}
use Rattle.port.specs.declared.port.HostKind.{HostKind}
use Rattle.port.specs.declared.port.HostKind.TheVariants as host
use Rattle.commands.specs.Polls.{command, polled, left, first_of, poll_cycles}

-- a cycle that the host makes
abbrev pub hosted : HostKind → ℕ → Cycle
hosted k b = driven (record { kind = k; byte = b })

abbrev pub address_byte : ℕ → Cycle
address_byte b = hosted host.Address b

abbrev pub data_byte : ℕ → Cycle
data_byte b = hosted host.DataIn b

-- the bytes of a row, as many as the part asks for; an unknown part has no addresses
abbrev pub row_bytes : Option Part → Row → List ℕ
row_bytes None w = []
row_bytes (Some p) w = low_bytes (address_cycles p - 2) w.number

-- an address: the column's two bytes, then those of the row
abbrev pub address_bytes : Option Part → Row → Column → List ℕ
address_bytes o w c = low_bytes 2 c.number ++ row_bytes o w

abbrev pub addressed : Option Part → Row → Column → List Cycle
addressed o w c = map address_byte (address_bytes o w c)

abbrev pub first_column : Column
first_column = record { number = 0 }

-- FFh, and a poll
abbrev pub reset_cycles : ℕ → List ℕ → List Cycle
reset_cycles n rs = command op.Reset ∷ poll_cycles n rs

-- 90h, the address 00h, five bytes
abbrev pub identity_cycles : List ℕ → List Cycle
identity_cycles rs = command op.ReadId ∷ address_byte 0 ∷ map gave (first_of 5 rs)

-- 60h, a row of the block, D0h
abbrev pub erase_cycles : Option Part → Row → List Cycle
erase_cycles o w = command op.Erase ∷ (map address_byte (row_bytes o w) ++ command op.EraseConfirm ∷ [])

-- the command that confirms a program
abbrev pub confirming : Confirm → Opcode
confirming confirm.Program = op.ProgramConfirm
confirming confirm.Cache = op.CacheConfirm
confirming confirm.Copy = op.ProgramConfirm

-- 80h, an address, the bytes, and the confirm
abbrev pub program_cycles : Option Part → Row → Column → List ℕ → Confirm → List Cycle
program_cycles o w c bs f = command op.Program ∷ (addressed o w c ++ (map data_byte bs ++ command (confirming f) ∷ []))

-- 85h, an address at column 0, 10h: the page that was read for a copy
abbrev pub copy_cycles : Option Part → Row → List Cycle
copy_cycles o w = command op.CopyProgram ∷ (addressed o w first_column ++ command op.ProgramConfirm ∷ [])

-- 00h, an address, 30h or 35h, and a poll
abbrev pub open_cycles : Opcode → Option Part → ℕ → Row → Column → List ℕ → List Cycle
open_cycles f o n w c rs = command op.Read ∷ (addressed o w c ++ (command f ∷ poll_cycles n rs))

-- once the page is there: 00h, and its bytes
abbrev pub out_cycles : Option ℕ → ℕ → List ℕ → List Cycle
out_cycles None len rs = []
out_cycles (Some s) len rs = command op.Read ∷ map gave (first_of len rs)

abbrev pub read_cycles : Option Part → ℕ → Row → Column → ℕ → List ℕ → List Cycle
read_cycles o n w c len rs = open_cycles op.ReadConfirm o n w c rs ++ out_cycles (polled n rs) len (left n rs)

abbrev pub copy_read_cycles : Option Part → ℕ → Row → List ℕ → List Cycle
copy_read_cycles o n w rs = open_cycles op.CopyReadConfirm o n w first_column rs
