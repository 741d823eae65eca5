-- The factory mark among the bytes that are read of a page.
use Rattle.std.specs.Prelude.{ℕ, ◌-◌, cond, ◌&&◌, List, length, Some, None, Option, nat_le, nat_lt, slice_index}
use Rattle.flash.specs.Records.{mark_read}
use Rattle.flash.specs.declared.page.Page.{Page}
use Rattle.flash.specs.declared.part.Part.{Part}
use Rattle.flash.specs.declared.record.BlockRecord.{BlockRecord}
use Rattle.bus.specs.Bus.{changed_at}
use Rattle.bus.specs.States.{blocks_in}

-- the byte at column 2048, if it is among these from a column on
abbrev pub mark_in : ℕ → List ℕ → Option ℕ
mark_in c bs = cond (nat_le c 2048 && nat_lt (2048 - c) (length bs)) (Some (slice_index bs (2048 - c))) None

-- what becomes of the record
abbrev pub mark_found : Option Part → Page → Option ℕ → List BlockRecord → List BlockRecord
mark_found o p None ks = ks
mark_found o p (Some b) ks = changed_at (blocks_in o) (Some p.block) (mark_read p.page b) ks
