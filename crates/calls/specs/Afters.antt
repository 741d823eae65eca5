-- What the bus reader holds after a call's cycles.
use Rattle.std.specs.Prelude.{ℕ, ◌+◌, Bool, true, false, cond, List, [], ◌∷◌, length, Some, None, Option}
use Rattle.flash.specs.Addresses.{row_at, block_of, page_of, at_mark}
use Rattle.flash.specs.Records.{mark_read}
use Rattle.flash.specs.declared.address.Column.{Column}
use Rattle.flash.specs.declared.address.Row.{Row}
use Rattle.flash.specs.declared.part.Part.{Part}
use Rattle.flash.specs.declared.record.BlockRecord.{BlockRecord}
use Rattle.bus.specs.Bus.{Reader, done, at, changed_at}
use Rattle.bus.specs.States.{blocks_in}
use Rattle.bus.specs.declared.act.Act.TheVariants as act
use Rattle.bus.specs.declared.act.Confirm.{Confirm}
use Rattle.bus.specs.declared.act.Confirm.TheVariants as confirm
use Rattle.bus.specs.declared.state.Phase.{Phase}
use Rattle.bus.specs.declared.state.Phase.TheVariants as phase
use Rattle.bus.specs.declared.state.PageRead.{PageRead}
use Rattle.commands.specs.Polls.{polled, left, first_of}
use Rattle.commands.specs.Sequences.{first_column}
use Rattle.calls.specs.Table.{mark_column, block_row, chain_page}
use Rattle.calls.specs.declared.call.Call.{Call}
use Rattle.calls.specs.declared.call.Call.TheVariants as call

-- what a confirmed read, and then the register, holds: the page, the column, and whether it is to be copied
abbrev pub page_read : Row → Column → Bool → PageRead
page_read w c copy = record { row = w; column = c; copy = copy }

-- the same reader at another phase and with another register
abbrev pub move_to : Phase → Option PageRead → Reader → Reader
move_to h g r = record { bus = at r.bus h r.bus.busy g r.bus.chain; blocks = r.blocks }

-- 70h and status bytes: the ready one ends what is busy
abbrev pub asked : Reader → Reader
asked r = move_to phase.Status r.bus.register r

abbrev pub after_poll : Option ℕ → Reader → Reader
after_poll None r = asked r
after_poll (Some s) r = done (asked r) (act.Status s)

abbrev pub after_reset : Reader → Reader
after_reset r = done r act.Reset

-- a confirm, with nothing half given before it and the register emptied
abbrev pub after_erase : Row → Reader → Reader
after_erase w r = done (move_to phase.Quiet None r) (act.Erase w)

abbrev pub after_program : Row → Column → Confirm → Reader → Reader
after_program w c f r = done (move_to phase.Quiet None r) (act.Program w c f)

abbrev pub after_open : Row → Column → Bool → Reader → Reader
after_open w c copy r = done (move_to phase.Quiet None r) (act.Read (page_read w c copy))

-- bytes of a row from a column on: each that stands at a mark is noted
abbrev pub noted : Option Part → Row → ℕ → List ℕ → List BlockRecord → List BlockRecord
noted o w c [] ks = ks
noted o w c (b ∷ bs) ks =
    noted o w (c + 1) bs (changed_at (blocks_in o) (cond (at_mark (record { number = c })) (Some (block_of w)) None) (mark_read (page_of w) b) ks)

abbrev pub after_bytes : Row → Column → List ℕ → Reader → Reader
after_bytes w c bs r = record {
  bus = at r.bus phase.Output r.bus.busy (Some (page_read w (record { number = c.number + length bs }) false)) r.bus.chain;
  blocks = noted r.bus.part w c.number bs r.blocks;
}

abbrev pub after_identity : List ℕ → Reader → Reader
after_identity bs r = done (move_to phase.Quiet None r) (act.Identify bs)

-- what follows a poll follows only a ready status
abbrev pub if_ready : Option ℕ → (Reader → Reader) → Reader → Reader
if_ready None f r = r
if_ready (Some s) f r = f r

abbrev pub after_read : ℕ → Row → Column → ℕ → List ℕ → Reader → Reader
after_read n w c len rs r = if_ready (polled n rs) (after_bytes w c (first_of len (left n rs))) (after_poll (polled n rs) (after_open w c false r))

-- the reader after the cycles of a call
abbrev pub after : ℕ → Call → List ℕ → List ℕ → Reader → Reader
after n call.Identify bs rs r = if_ready (polled n rs) (after_identity (first_of 5 (left n rs))) (after_poll (polled n rs) (after_reset r))
after n (call.Look p) bs rs r = after_read n (row_at p) mark_column 1 rs r
after n call.Close bs rs r = r
after n (call.Read p c len) bs rs r = after_read n (row_at p) c len rs r
after n (call.Erase b) bs rs r = after_erase (block_row b) r
after n (call.Program p c) bs rs r = after_program (row_at p) c confirm.Program r
after n (call.CacheFirst p c) bs rs r = after_program (row_at p) c confirm.Cache r
after n (call.CacheNext s g c) bs rs r = if_ready (polled n rs) (after_program (row_at (chain_page s g)) c confirm.Cache) (after_poll (polled n rs) r)
after n (call.CacheLast s g c) bs rs r = if_ready (polled n rs) (after_program (row_at (chain_page s g)) c confirm.Program) (after_poll (polled n rs) r)
after n (call.Copy p q) bs rs r = if_ready (polled n rs) (after_program (row_at q) first_column confirm.Copy) (after_poll (polled n rs) (after_open (row_at p) first_column true r))
after n (call.Settle s) bs rs r = after_poll (polled n rs) r
after n (call.Abandon s) bs rs r = after_poll (polled n rs) (after_reset r)
after n call.Reset bs rs r = after_poll (polled n rs) (after_reset r)
after n (call.Pick b) bs rs r = r
after n (call.Record b) bs rs r = r
