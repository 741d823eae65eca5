-- What an arriving cycle is, given where the bus stands.
use Rattle.std.specs.Prelude.{ℕ, Bool, true, false, cond, ◌&&◌, [], ◌∷◌, Some, None, Option, ◌==◌, nat_lt, slice_index}
use Rattle.flash.specs.Addresses.{column_of, row_of, block_of, in_page}
use Rattle.flash.specs.Opcodes.{opcode_of}
use Rattle.flash.specs.declared.address.Column.{Column}
use Rattle.flash.specs.declared.address.Row.{Row}
use Rattle.flash.specs.declared.cycle.Cycle.{Cycle}
use Rattle.flash.specs.declared.cycle.Kind.TheVariants.{Command, Address, DataIn, DataOut}
use Rattle.flash.specs.declared.opcode.Opcode.{Opcode}
use Rattle.flash.specs.declared.opcode.Opcode.TheVariants as op
use Rattle.bus.specs.States.{blocks_in, cycles_in, known, nothing_given, column_skipped, plus, quiet, idle, closed, copy_up}
use Rattle.bus.specs.declared.act.Act.{Act}
use Rattle.bus.specs.declared.act.Act.TheVariants as act
use Rattle.bus.specs.declared.act.Confirm.TheVariants as confirm
use Rattle.bus.specs.declared.state.Given.{Given}
use Rattle.bus.specs.declared.state.Setup.{Setup}
use Rattle.bus.specs.declared.state.Setup.TheVariants as setup
use Rattle.bus.specs.declared.state.Phase.{Phase}
use Rattle.bus.specs.declared.state.Phase.TheVariants as phase
use Rattle.bus.specs.declared.state.PageRead.{PageRead}
use Rattle.bus.specs.declared.state.BusState.{BusState}

abbrev pub when_idle : BusState → Act → Act
when_idle u a = cond (idle u.busy) a act.WhileBusy

abbrev pub when : Bool → Act → Act
when b a = cond b a act.OutOfPlace

-- a command may begin: none is half given, no chain is open, the part is known
abbrev pub begins : BusState → Bool
begins u = quiet u.phase && (closed u.chain && known u.part)

-- what a confirm would end, by the phase
abbrev pub read_confirmed : Bool → Phase → Act
read_confirmed f phase.Quiet = act.OutOfPlace
read_confirmed f phase.Status = act.OutOfPlace
read_confirmed f phase.Output = act.OutOfPlace
read_confirmed f phase.Identity = act.OutOfPlace
read_confirmed f (phase.IdentityBytes g) = act.OutOfPlace
read_confirmed f phase.ReadSetup = act.OutOfPlace
read_confirmed f (phase.Addressing s g) = act.OutOfPlace
read_confirmed f (phase.Addressed setup.Read c w) = act.Read (record { row = w; column = c; copy = f })
read_confirmed f (phase.Addressed setup.Erase c w) = act.OutOfPlace
read_confirmed f (phase.Addressed setup.Program c w) = act.OutOfPlace
read_confirmed f (phase.Addressed setup.Copy c w) = act.OutOfPlace
read_confirmed f (phase.Loading w s n) = act.OutOfPlace

abbrev pub erase_confirmed : Phase → Act
erase_confirmed phase.Quiet = act.OutOfPlace
erase_confirmed phase.Status = act.OutOfPlace
erase_confirmed phase.Output = act.OutOfPlace
erase_confirmed phase.Identity = act.OutOfPlace
erase_confirmed (phase.IdentityBytes g) = act.OutOfPlace
erase_confirmed phase.ReadSetup = act.OutOfPlace
erase_confirmed (phase.Addressing s g) = act.OutOfPlace
erase_confirmed (phase.Addressed setup.Read c w) = act.OutOfPlace
erase_confirmed (phase.Addressed setup.Erase c w) = act.Erase w
erase_confirmed (phase.Addressed setup.Program c w) = act.OutOfPlace
erase_confirmed (phase.Addressed setup.Copy c w) = act.OutOfPlace
erase_confirmed (phase.Loading w s n) = act.OutOfPlace

abbrev pub program_confirmed : Phase → Act
program_confirmed phase.Quiet = act.OutOfPlace
program_confirmed phase.Status = act.OutOfPlace
program_confirmed phase.Output = act.OutOfPlace
program_confirmed phase.Identity = act.OutOfPlace
program_confirmed (phase.IdentityBytes g) = act.OutOfPlace
program_confirmed phase.ReadSetup = act.OutOfPlace
program_confirmed (phase.Addressing s g) = act.OutOfPlace
program_confirmed (phase.Addressed setup.Read c w) = act.OutOfPlace
program_confirmed (phase.Addressed setup.Erase c w) = act.OutOfPlace
program_confirmed (phase.Addressed setup.Program c w) = act.OutOfPlace
program_confirmed (phase.Addressed setup.Copy c w) = act.Program w c confirm.Copy
program_confirmed (phase.Loading w s n) = act.Program w s confirm.Program

abbrev pub cache_confirmed : Phase → Act
cache_confirmed phase.Quiet = act.OutOfPlace
cache_confirmed phase.Status = act.OutOfPlace
cache_confirmed phase.Output = act.OutOfPlace
cache_confirmed phase.Identity = act.OutOfPlace
cache_confirmed (phase.IdentityBytes g) = act.OutOfPlace
cache_confirmed phase.ReadSetup = act.OutOfPlace
cache_confirmed (phase.Addressing s g) = act.OutOfPlace
cache_confirmed (phase.Addressed s c w) = act.OutOfPlace
cache_confirmed (phase.Loading w s n) = act.Program w s confirm.Cache

-- a command, by its name
abbrev pub commanded : BusState → Opcode → Act
commanded u op.Reset = act.Reset
commanded u op.ReadStatus = when (quiet u.phase) (act.Prepare phase.Status u.register)
commanded u op.ReadId = when_idle u (when (quiet u.phase && closed u.chain) (act.Prepare phase.Identity None))
commanded u op.Read = when_idle u (when (begins u) (act.Prepare phase.ReadSetup u.register))
commanded u op.ReadConfirm = when_idle u (when (closed u.chain) (read_confirmed false u.phase))
commanded u op.CopyReadConfirm = when_idle u (when (closed u.chain) (read_confirmed true u.phase))
commanded u op.Erase = when_idle u (when (begins u) (act.Prepare (phase.Addressing setup.Erase column_skipped) None))
commanded u op.EraseConfirm = when_idle u (when (closed u.chain) (erase_confirmed u.phase))
commanded u op.Program = when_idle u (when (quiet u.phase && known u.part) (act.Prepare (phase.Addressing setup.Program nothing_given) None))
commanded u op.CopyProgram = when_idle u (when (begins u && copy_up u.register) (act.Prepare (phase.Addressing setup.Copy nothing_given) None))
commanded u op.ProgramConfirm = when_idle u (program_confirmed u.phase)
commanded u op.CacheConfirm = when_idle u (cache_confirmed u.phase)

-- a byte that is no command is one that no phase takes
abbrev pub command : BusState → Option Opcode → Act
command u None = when_idle u act.OutOfPlace
command u (Some o) = commanded u o

-- the column and row of an address: its first two bytes, and the rest
abbrev pub column_in : Given → Column
column_in g = column_of (slice_index g.bytes 0 ∷ slice_index g.bytes 1 ∷ [])

abbrev pub row_in : Given → Row
row_in g = row_of (slice_index g.bytes 2 ∷ slice_index g.bytes 3 ∷ slice_index g.bytes 4 ∷ [])

-- a row that may be named: in the part and, while a chain is open, in its block
abbrev pub in_chain : Option ℕ → Row → Bool
in_chain None w = true
in_chain (Some b) w = block_of w == b

abbrev pub nameable : BusState → Row → Bool
nameable u w = nat_lt (block_of w) (blocks_in u.part) && in_chain u.chain w

-- an address byte, with those before it: the last one is judged
abbrev pub addressing : BusState → Setup → Given → Act
addressing u s g =
    cond (nat_lt g.count (cycles_in u.part)) (act.Prepare (phase.Addressing s g) u.register)
    (when (nameable u (row_in g)) (act.Prepare (phase.Addressed s (column_in g) (row_in g)) u.register))

abbrev pub address : BusState → Phase → ℕ → Act
address u phase.Quiet b = act.OutOfPlace
address u phase.Status b = act.OutOfPlace
address u phase.Output b = act.OutOfPlace
address u phase.Identity b = when (b == 0) (act.Prepare (phase.IdentityBytes nothing_given) u.register)
address u (phase.IdentityBytes g) b = act.OutOfPlace
address u phase.ReadSetup b = act.Prepare (phase.Addressing setup.Read (plus nothing_given b)) None
address u (phase.Addressing s g) b = addressing u s (plus g b)
address u (phase.Addressed s c w) b = act.OutOfPlace
address u (phase.Loading w s n) b = act.OutOfPlace

-- a byte to program goes to the next column, if the page has it
abbrev pub loading : Row → Column → Column → ℕ → Act
loading w s n b = when (in_page n) (act.Load w s n b)

abbrev pub data_in : Phase → ℕ → Act
data_in phase.Quiet b = act.OutOfPlace
data_in phase.Status b = act.OutOfPlace
data_in phase.Output b = act.OutOfPlace
data_in phase.Identity b = act.OutOfPlace
data_in (phase.IdentityBytes g) b = act.OutOfPlace
data_in phase.ReadSetup b = act.OutOfPlace
data_in (phase.Addressing s g) b = act.OutOfPlace
data_in (phase.Addressed setup.Read c w) b = act.OutOfPlace
data_in (phase.Addressed setup.Erase c w) b = act.OutOfPlace
data_in (phase.Addressed setup.Program c w) b = loading w c c b
data_in (phase.Addressed setup.Copy c w) b = act.OutOfPlace
data_in (phase.Loading w s n) b = loading w s n b

-- a byte from the chip
abbrev pub identity : BusState → Given → Act
identity u g = cond (nat_lt g.count 5) (act.Prepare (phase.IdentityBytes g) u.register) (act.Identify g.bytes)

abbrev pub output : Option PageRead → ℕ → Act
output None b = act.OutOfPlace
output (Some x) b = when (in_page x.column) (act.Data x.row x.column b)

abbrev pub data_out : BusState → Phase → ℕ → Act
data_out u phase.Quiet b = act.OutOfPlace
data_out u phase.Status b = act.Status b
data_out u phase.Output b = output u.register b
data_out u phase.Identity b = act.OutOfPlace
data_out u (phase.IdentityBytes g) b = identity u (plus g b)
data_out u phase.ReadSetup b = output u.register b
data_out u (phase.Addressing s g) b = act.OutOfPlace
data_out u (phase.Addressed s c w) b = act.OutOfPlace
data_out u (phase.Loading w s n) b = act.OutOfPlace

abbrev pub act_of : BusState → Cycle → Act
act_of u c = elim c.kind [
  | Command ↦ command u (opcode_of c.byte)
  | Address ↦ address u u.phase c.byte
  | DataIn ↦ data_in u.phase c.byte
  | DataOut ↦ data_out u u.phase c.byte
]
