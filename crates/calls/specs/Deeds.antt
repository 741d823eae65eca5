-- What the bus reader tells of a call's cycles: the operation, its block, page and column, and the bytes.
use Rattle.std.specs.Prelude.{ℕ, Bool, List, [], ◌∷◌, ◌++◌, replicate, None, Option}
use Rattle.flash.specs.Records.{first_record}
use Rattle.flash.specs.declared.cycle.Cycle.{Cycle}
use Rattle.flash.specs.declared.part.Part.{Part}
use Rattle.bus.specs.declared.act.Confirm.{Confirm}
use Rattle.bus.specs.declared.state.Phase.TheVariants as phase
use Rattle.events.specs.Events.{Thing, Place, Telling, events}
use Rattle.events.specs.Events as thing

-- an operation that was told: FFh; five identity bytes; a read, or a copy read; a byte out; an erase of
-- a block; a program, with its confirm and the bytes given
pub data Deed : Type 0 where
  reset : Deed
  identity : List ℕ → Deed
  read : Bool → Place → Deed
  out : ℕ → Deed
  erase : ℕ → Deed
  program : Confirm → Place → List ℕ → Deed

-- breaches and status bytes are no operations
abbrev pub deed : Thing → List Deed
deed (thing.broke n b) = []
deed thing.reset = reset ∷ []
deed (thing.status b) = []
deed (thing.identity bs) = identity bs ∷ []
deed (thing.read copy p) = read copy p ∷ []
deed (thing.byte n b) = out b ∷ []
deed (thing.erase b) = erase b ∷ []
deed (thing.program f p bs) = program f p bs ∷ []

abbrev pub deeds : List Thing → List Deed
deeds [] = []
deeds (x ∷ xs) = deed x ++ deeds xs

-- a reader at rest that knows only the part
abbrev pub at_rest : Option Part → Telling
at_rest o = record {
  reader = record {
    bus = record { part = o; phase = phase.Quiet; busy = None; register = None; chain = None; breaches = 0 };
    blocks = replicate 2048 first_record;
  };
  hand = [];
  cycles = 0;
}

-- cycles read back, from the part alone
abbrev pub decode : Option Part → List Cycle → List Deed
decode o cs = deeds (events (at_rest o) cs)
