-- The bus reader: how each cycle moves what it holds.
use Rattle.std.specs.Prelude.{ℕ, ◌+◌, ◌-◌, min, false, cond, List, ◌++◌, length, replicate, Some, None, Option, nat_lt, slice_index_or, slice_set}
use mathlib.Core.List.{foldl}
use Rattle.flash.specs.Addresses.{block_of, page_of, next_column, at_mark}
use Rattle.flash.specs.Parts.{identified}
use Rattle.flash.specs.Records.{first_record, stale, programmed, program_ended, erase_ended, mark_read}
use Rattle.flash.specs.Statuses.{ready, verdict_of}
use Rattle.flash.specs.declared.cycle.Cycle.{Cycle}
use Rattle.flash.specs.declared.part.Part.{Part}
use Rattle.flash.specs.declared.record.BlockRecord.{BlockRecord}
use Rattle.bus.specs.States.{first_bus, blocks_in, allowed_in, under_way}
use Rattle.bus.specs.Acts.{act_of}
use Rattle.bus.specs.Breaches.{how_many, judged}
use Rattle.bus.specs.declared.act.Act.{Act}
use Rattle.bus.specs.declared.act.Act.TheVariants as act
use Rattle.bus.specs.declared.act.Confirm.{Confirm}
use Rattle.bus.specs.declared.act.Confirm.TheVariants as confirm
use Rattle.bus.specs.declared.breach.Breaches.{Breaches}
use Rattle.bus.specs.declared.state.Phase.{Phase}
use Rattle.bus.specs.declared.state.Phase.TheVariants as phase
use Rattle.bus.specs.declared.state.Work.{Work}
use Rattle.bus.specs.declared.state.Work.TheVariants as work
use Rattle.bus.specs.declared.state.PageRead.{PageRead}
use Rattle.bus.specs.declared.state.BusState.{BusState}

-- what the bus reader holds: where the bus stands, and a record for each block
pub record Reader : Type 0 where
  pub bus : BusState
  pub blocks : List BlockRecord

-- at first: nothing known, nothing begun
abbrev pub first : Reader
first = record { bus = first_bus; blocks = replicate 2048 first_record }

-- the bus at another phase, busy, register and chain; part and breaches stay
abbrev pub at : BusState → Phase → Option Work → Option PageRead → Option ℕ → BusState
at u p b g c = record { part = u.part; phase = p; busy = b; register = g; chain = c; breaches = u.breaches }

-- what is busy ends
abbrev pub ended : BusState → Option Work → BusState
ended u None = u
ended u (Some work.Reset) = at u u.phase None u.register u.chain
ended u (Some (work.Read x)) = at u u.phase None (Some x) u.chain
ended u (Some work.CachePage) = at u u.phase None u.register u.chain
ended u (Some (work.Program b)) = at u u.phase None u.register None
ended u (Some (work.Erase b)) = at u u.phase None u.register u.chain

-- an unknown part becomes the one with these five bytes, if any
abbrev pub part_after : Option Part → List ℕ → Option Part
part_after None bs = identified bs
part_after (Some p) bs = Some p

abbrev pub confirmed : BusState → ℕ → Confirm → BusState
confirmed u b confirm.Program = at u phase.Quiet (Some (work.Program b)) u.register u.chain
confirmed u b confirm.Cache = at u phase.Quiet (Some work.CachePage) u.register (Some b)
confirmed u b confirm.Copy = at u phase.Quiet (Some (work.Program b)) u.register u.chain

-- where the bus stands after an act, its breaches aside
abbrev pub moved : BusState → Act → BusState
moved u act.WhileBusy = u
moved u act.OutOfPlace = u
moved u act.Reset = at u phase.Quiet (Some work.Reset) None None
moved u (act.Prepare p g) = at u p u.busy g u.chain
moved u (act.Status b) = cond (ready b) (ended u u.busy) u
moved u (act.Identify bs) = record { part = part_after u.part bs; phase = phase.Quiet; busy = u.busy; register = u.register; chain = u.chain; breaches = u.breaches }
moved u (act.Read x) = at u phase.Quiet (Some (work.Read x)) u.register u.chain
moved u (act.Data w c b) = at u phase.Output u.busy (Some (record { row = w; column = next_column c; copy = false })) u.chain
moved u (act.Erase w) = at u phase.Quiet (Some (work.Erase (block_of w))) u.register u.chain
moved u (act.Load w s c b) = at u (phase.Loading w s (next_column c)) u.busy u.register u.chain
moved u (act.Program w c f) = confirmed u (block_of w) f

-- breaches are counted up to 65,535
abbrev pub counted : BusState → ℕ → BusState
counted u n = record { part = u.part; phase = u.phase; busy = u.busy; register = u.register; chain = u.chain; breaches = min 65535 (u.breaches + n) }

-- the one block whose record an act concerns
abbrev pub work_done : Option Work → Option ℕ
work_done None = None
work_done (Some work.Reset) = None
work_done (Some (work.Read x)) = None
work_done (Some work.CachePage) = None
work_done (Some (work.Program b)) = Some b
work_done (Some (work.Erase b)) = Some b

abbrev pub concerns : BusState → Act → Option ℕ
concerns u act.WhileBusy = None
concerns u act.OutOfPlace = None
concerns u act.Reset = under_way u
concerns u (act.Prepare p g) = None
concerns u (act.Status b) = cond (ready b) (work_done u.busy) None
concerns u (act.Identify bs) = None
concerns u (act.Read x) = None
concerns u (act.Data w c b) = cond (at_mark c) (Some (block_of w)) None
concerns u (act.Erase w) = Some (block_of w)
concerns u (act.Load w s c b) = None
concerns u (act.Program w c f) = Some (block_of w)

-- what becomes of that record
abbrev pub work_ended : Option Work → ℕ → BlockRecord → BlockRecord
work_ended None b k = k
work_ended (Some work.Reset) b k = k
work_ended (Some (work.Read x)) b k = k
work_ended (Some work.CachePage) b k = k
work_ended (Some (work.Program n)) b k = program_ended (verdict_of b) k
work_ended (Some (work.Erase n)) b k = erase_ended (verdict_of b) k

abbrev pub changed : BusState → Act → BlockRecord → BlockRecord
changed u act.WhileBusy k = k
changed u act.OutOfPlace k = k
changed u act.Reset k = stale k
changed u (act.Prepare p g) k = k
changed u (act.Status b) k = work_ended u.busy b k
changed u (act.Identify bs) k = k
changed u (act.Read x) k = k
changed u (act.Data w c b) k = mark_read (page_of w) b k
changed u (act.Erase w) k = stale k
changed u (act.Load w s c b) k = k
changed u (act.Program w c f) k = programmed (allowed_in u.part) (page_of w) k

-- a block outside the part has no record that could change
abbrev pub changed_at : ℕ → Option ℕ → (BlockRecord → BlockRecord) → List BlockRecord → List BlockRecord
changed_at n None f ks = ks
changed_at n (Some b) f ks = cond (nat_lt b n) (slice_set ks b (f (slice_index_or ks b first_record))) ks

abbrev pub record_in : Option ℕ → List BlockRecord → BlockRecord
record_in None ks = first_record
record_in (Some b) ks = slice_index_or ks b first_record

abbrev pub breaches_of : Reader → Act → Breaches
breaches_of r a = judged r.bus (record_in (concerns r.bus a) r.blocks) a

abbrev pub done : Reader → Act → Reader
done r a = record {
  bus = counted (moved r.bus a) (how_many (breaches_of r a));
  blocks = changed_at (blocks_in r.bus.part) (concerns r.bus a) (changed r.bus a) r.blocks;
}

unfoldable pub step : Reader → Cycle → Reader
step r c = done r (act_of r.bus c)

abbrev pub steps : Reader → List Cycle → Reader
steps r cs = foldl step r cs

-- records lent to a reader, filled up to 2,048 with first ones
abbrev pub filled : List BlockRecord → List BlockRecord
filled ks = ks ++ replicate (2048 - length ks) first_record
