-- Words about where the bus stands.
use Rattle.std.specs.Prelude.{ℕ, ◌+◌, Bool, true, false, cond, [], ◌∷◌, Some, None, Option, nat_lt, slice_set}
use Rattle.flash.specs.Parts.{blocks_of, address_cycles, programs_allowed}
use Rattle.flash.specs.declared.part.Part.{Part}
use Rattle.bus.specs.declared.state.Given.{Given}
use Rattle.bus.specs.declared.state.Phase.{Phase}
use Rattle.bus.specs.declared.state.Phase.TheVariants as phase
use Rattle.bus.specs.declared.state.Work.{Work}
use Rattle.bus.specs.declared.state.Work.TheVariants as work
use Rattle.bus.specs.declared.state.PageRead.{PageRead}
use Rattle.bus.specs.declared.state.BusState.{BusState}

abbrev pub first_bus : BusState
first_bus = record { part = None; phase = phase.Quiet; busy = None; register = None; chain = None; breaches = 0 }

-- an unknown part has no blocks, no addresses, and allows no program
abbrev pub blocks_in : Option Part → ℕ
blocks_in None = 0
blocks_in (Some p) = blocks_of p

abbrev pub cycles_in : Option Part → ℕ
cycles_in None = 0
cycles_in (Some p) = address_cycles p

abbrev pub allowed_in : Option Part → ℕ
allowed_in None = 0
allowed_in (Some p) = programs_allowed p

abbrev pub known : Option Part → Bool
known None = false
known (Some p) = true

-- bytes as they come, five at most
abbrev pub nothing_given : Given
nothing_given = record { count = 0; bytes = 0 ∷ 0 ∷ 0 ∷ 0 ∷ 0 ∷ [] }

abbrev pub column_skipped : Given
column_skipped = record { count = 2; bytes = 0 ∷ 0 ∷ 0 ∷ 0 ∷ 0 ∷ [] }

abbrev pub plus : Given → ℕ → Given
plus g b = cond (nat_lt g.count 5) (record { count = g.count + 1; bytes = slice_set g.bytes g.count b }) g

-- no command is half given
abbrev pub quiet : Phase → Bool
quiet phase.Quiet = true
quiet phase.Status = true
quiet phase.Output = true
quiet phase.Identity = false
quiet (phase.IdentityBytes g) = false
quiet phase.ReadSetup = false
quiet (phase.Addressing s g) = false
quiet (phase.Addressed s c w) = false
quiet (phase.Loading w s n) = false

abbrev pub idle : Option Work → Bool
idle None = true
idle (Some w) = false

abbrev pub closed : Option ℕ → Bool
closed None = true
closed (Some b) = false

abbrev pub copy_up : Option PageRead → Bool
copy_up None = false
copy_up (Some x) = x.copy

-- the block of a program or erase that is busy, or else of an open chain
abbrev pub work_of : Option Work → Option ℕ → Option ℕ
work_of None c = c
work_of (Some work.Reset) c = c
work_of (Some (work.Read x)) c = c
work_of (Some work.CachePage) c = c
work_of (Some (work.Program b)) c = Some b
work_of (Some (work.Erase b)) c = Some b

abbrev pub under_way : BusState → Option ℕ
under_way u = work_of u.busy u.chain
