-- What a session holds, its port aside.
use Rattle.std.specs.Prelude.{ℕ, Bool, true, false, List, Some, None, Option, unwrap_or}
use Rattle.flash.specs.declared.page.Page.{Page}
use Rattle.flash.specs.declared.part.Part.{Part}
use Rattle.flash.specs.declared.part.Part.TheVariants.{OneGbit}
use Rattle.flash.specs.declared.record.BlockRecord.{BlockRecord}
use Rattle.calls.specs.Slips.{slip_number}
use Rattle.calls.specs.declared.slip.SlipKind.TheVariants as kind
use Rattle.driver.specs.declared.standing.Standing.{Standing}
use Rattle.driver.specs.declared.standing.Standing.TheVariants as standing

pub record View : Type 0 where
  pub part : Option Part
  pub polls : ℕ
  pub blocks : List BlockRecord
  pub standing : Standing

-- the page of an erase is page 0 of its block
abbrev pub block_page : ℕ → Page
block_page b = record { block = b; page = 0 }

-- the numbers of the slips for an erase, a program and a chain
abbrev pub erase_slip : ℕ → ℕ
erase_slip b = slip_number kind.Erase (block_page b)

abbrev pub program_slip : Page → ℕ
program_slip p = slip_number kind.Program p

abbrev pub chain_slip : Page → ℕ
chain_slip p = slip_number kind.Chain p

-- the slip that is out, and the block of its work
abbrev pub slip_out : Standing → Option ℕ
slip_out standing.Ready = None
slip_out standing.Stuck = None
slip_out (standing.Erasing b) = Some (erase_slip b)
slip_out (standing.Programming p) = Some (program_slip p)
slip_out (standing.Chaining p) = Some (chain_slip p)

-- the number of a slip for this work, or nought
abbrev pub slip_of : Standing → ℕ
slip_of s = unwrap_or (slip_out s) 0

abbrev pub block_at_work : Standing → Option ℕ
block_at_work standing.Ready = None
block_at_work standing.Stuck = None
block_at_work (standing.Erasing b) = Some b
block_at_work (standing.Programming p) = Some p.block
block_at_work (standing.Chaining p) = Some p.block

abbrev pub is_stuck : Standing → Bool
is_stuck standing.Ready = false
is_stuck standing.Stuck = true
is_stuck (standing.Erasing b) = false
is_stuck (standing.Programming p) = false
is_stuck (standing.Chaining p) = false

abbrev pub in_chain : Standing → Bool
in_chain standing.Ready = false
in_chain standing.Stuck = false
in_chain (standing.Erasing b) = false
in_chain (standing.Programming p) = false
in_chain (standing.Chaining p) = true

-- a part to go on with, which is the known one where one is known
abbrev pub part_or : Option Part → Part
part_or None = OneGbit
part_or (Some p) = p
