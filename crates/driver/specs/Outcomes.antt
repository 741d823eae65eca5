-- What a call answers and leaves, for the replies that the chip gives.
use Rattle.std.specs.Prelude.{ℕ, List, [], ◌++◌, length, Some, None, Option, slice_index_or}
use Rattle.flash.specs.Addresses.{row_at}
use Rattle.flash.specs.Parts.{identified}
use Rattle.flash.specs.Records.{first_record, stale, programmed, program_ended, erase_ended}
use Rattle.flash.specs.Statuses.{verdict_of}
use Rattle.flash.specs.declared.address.Column.{Column}
use Rattle.flash.specs.declared.cycle.Cycle.{Cycle}
use Rattle.flash.specs.declared.fault.Fault.{Fault}
use Rattle.flash.specs.declared.fault.Fault.TheVariants as fault
use Rattle.flash.specs.declared.page.Page.{Page}
use Rattle.flash.specs.declared.part.Part.{Part}
use Rattle.flash.specs.declared.record.BlockRecord.{BlockRecord}
use Rattle.flash.specs.declared.status.Verdict.{Verdict}
use Rattle.flash.specs.declared.status.Verdict.TheVariants as verdict
use Rattle.bus.specs.Bus.{changed_at}
use Rattle.bus.specs.States.{blocks_in, allowed_in}
use Rattle.bus.specs.declared.act.Confirm.{Confirm}
use Rattle.bus.specs.declared.act.Confirm.TheVariants as confirm
use Rattle.commands.specs.Polls.{polled, left, first_of, poll_cycles}
use Rattle.commands.specs.Sequences.{program_cycles}
use Rattle.record.specs.Picks.{picked}
use Rattle.calls.specs.Afters.{noted}
use Rattle.calls.specs.Table.{slip_page, chain_page, once_ready, cycles}
use Rattle.calls.specs.declared.call.Call.{Call}
use Rattle.calls.specs.declared.call.Call.TheVariants as call
use Rattle.driver.specs.Views.{View, erase_slip, program_slip, chain_slip, block_at_work}
use Rattle.driver.specs.Refusals.{refusal}
use Rattle.driver.specs.declared.standing.Standing.{Standing}
use Rattle.driver.specs.declared.standing.Standing.TheVariants as standing

-- what a call answers
pub data Reply : Type 0 where
  done : Reply
  slip : ℕ → Reply
  byte : ℕ → Reply
  bytes : List ℕ → Reply
  block : Option ℕ → Reply
  known : BlockRecord → Reply
  refused : Fault → Reply

pub record Outcome : Type 0 where
  pub reply : Reply
  pub view : View

abbrev pub leaving : View → List BlockRecord → Standing → View
leaving v ks s = record { part = v.part; polls = v.polls; blocks = ks; standing = s }

abbrev pub keeping : View → List BlockRecord → View
keeping v ks = leaving v ks v.standing

abbrev pub standing_at : View → Standing → View
standing_at v s = leaving v v.blocks s

abbrev pub identifying : View → Option Part → View
identifying v o = record { part = o; polls = v.polls; blocks = v.blocks; standing = standing.Ready }

-- the record of one block changes, if the part has the block
abbrev pub changed_in : View → Option ℕ → (BlockRecord → BlockRecord) → List BlockRecord
changed_in v b f = changed_at (blocks_in v.part) b f v.blocks

abbrev pub programmed_in : View → Page → List BlockRecord
programmed_in v p = changed_in v (Some p.block) (programmed (allowed_in v.part) p.page)

-- the poll ended without a ready status: the session is stuck, or the work stays under way
abbrev pub stuck_at : View → Option Page → Outcome
stuck_at v p = record { reply = refused (fault.Timeout p); view = standing_at v standing.Stuck }

abbrev pub still_at : View → Option Page → Outcome
still_at v p = record { reply = refused (fault.Timeout p); view = v }

abbrev pub named : View → List ℕ → Option Part → Outcome
named v bs None = record { reply = refused fault.UnknownPart; view = standing_at v standing.Ready }
named v bs (Some p) = record { reply = done; view = identifying v (Some p) }

abbrev pub identified_by : View → List ℕ → Option ℕ → Outcome
identified_by v bs None = stuck_at v None
identified_by v bs (Some s) = named v bs (identified bs)

abbrev pub looked : View → Page → List ℕ → Option ℕ → Outcome
looked v p bs None = stuck_at v (Some p)
looked v p bs (Some s) = record { reply = byte (slice_index_or bs 0 0xFF); view = leaving v (noted v.part (row_at p) 2048 bs v.blocks) standing.Ready }

abbrev pub read_by : View → Page → Column → List ℕ → Option ℕ → Outcome
read_by v p c bs None = stuck_at v (Some p)
read_by v p c bs (Some s) = record { reply = bytes bs; view = leaving v (noted v.part (row_at p) c.number bs v.blocks) standing.Ready }

abbrev pub erasing : View → ℕ → Outcome
erasing v b = record { reply = slip (erase_slip b); view = leaving v (changed_in v (Some b) stale) (standing.Erasing b) }

abbrev pub programming : View → Page → Outcome
programming v p = record { reply = slip (program_slip p); view = leaving v (programmed_in v p) (standing.Programming p) }

abbrev pub chaining : View → Page → Outcome
chaining v p = record { reply = slip (chain_slip p); view = leaving v (programmed_in v p) (standing.Chaining p) }

-- a program by its confirm
abbrev pub begun : Confirm → View → Page → Outcome
begun confirm.Program v p = programming v p
begun confirm.Cache v p = chaining v p
begun confirm.Copy v p = programming v p

-- a further page of a chain, once the chip is ready for it
abbrev pub added_by : Confirm → View → Page → Option ℕ → Outcome
added_by t v p None = still_at v (Some p)
added_by t v p (Some s) = begun t v p

abbrev pub added_cycles : Confirm → View → Page → Column → List ℕ → List ℕ → List Cycle
added_cycles t v p c bs rs = poll_cycles v.polls rs ++ once_ready (polled v.polls rs) (program_cycles v.part (row_at p) c bs t)

-- and the call that sends it with this confirm
abbrev pub chain_call : Confirm → ℕ → ℕ → Column → Call
chain_call confirm.Program n g c = call.CacheLast n g c
chain_call confirm.Cache n g c = call.CacheNext n g c
chain_call confirm.Copy n g c = call.CacheLast n g c

abbrev pub next_by : View → Page → Option ℕ → Outcome
next_by v p o = added_by confirm.Cache v p o

abbrev pub last_by : View → Page → Option ℕ → Outcome
last_by v p o = added_by confirm.Program v p o

abbrev pub copied_by : View → Page → Page → Option ℕ → Outcome
copied_by v p q None = stuck_at v (Some p)
copied_by v p q (Some s) = programming v q

-- the verdict of the status that ended the work
abbrev pub verdict_reply : Page → Verdict → Reply
verdict_reply p verdict.Good = done
verdict_reply p verdict.Failed = refused (fault.WorkFailed p)
verdict_reply p verdict.Protected = refused (fault.WorkProtected p)

abbrev pub ended_in : View → Standing → Verdict → List BlockRecord
ended_in v standing.Ready x = v.blocks
ended_in v standing.Stuck x = v.blocks
ended_in v (standing.Erasing b) x = changed_in v (Some b) (erase_ended x)
ended_in v (standing.Programming p) x = changed_in v (Some p.block) (program_ended x)
ended_in v (standing.Chaining p) x = v.blocks

abbrev pub settled_by : View → Page → Option ℕ → Outcome
settled_by v p None = still_at v (Some p)
settled_by v p (Some s) = record { reply = verdict_reply p (verdict_of s); view = leaving v (ended_in v v.standing (verdict_of s)) standing.Ready }

-- FFh cuts the work off: its block is stale
abbrev pub cut_off : View → List BlockRecord
cut_off v = changed_in v (block_at_work v.standing) stale

abbrev pub reset_by : View → Option Page → Option ℕ → Outcome
reset_by v p None = record { reply = refused (fault.Timeout p); view = leaving v (cut_off v) standing.Stuck }
reset_by v p (Some s) = record { reply = done; view = leaving v (cut_off v) standing.Ready }

-- a call that is not refused before the chip
abbrev pub accepted : View → Call → List ℕ → Outcome
accepted v call.Identify rs = identified_by v (first_of 5 (left v.polls rs)) (polled v.polls rs)
accepted v (call.Look p) rs = looked v p (first_of 1 (left v.polls rs)) (polled v.polls rs)
accepted v call.Close rs = record { reply = done; view = v }
accepted v (call.Read p c len) rs = read_by v p c (first_of len (left v.polls rs)) (polled v.polls rs)
accepted v (call.Erase b) rs = erasing v b
accepted v (call.Program p c) rs = programming v p
accepted v (call.CacheFirst p c) rs = chaining v p
accepted v (call.CacheNext n g c) rs = next_by v (chain_page n g) (polled v.polls rs)
accepted v (call.CacheLast n g c) rs = last_by v (chain_page n g) (polled v.polls rs)
accepted v (call.Copy p q) rs = copied_by v p q (polled v.polls rs)
accepted v (call.Settle n) rs = settled_by v (slip_page n) (polled v.polls rs)
accepted v (call.Abandon n) rs = reset_by v (Some (slip_page n)) (polled v.polls rs)
accepted v call.Reset rs = reset_by v None (polled v.polls rs)
accepted v (call.Pick b) rs = record { reply = block (picked v.blocks (blocks_in v.part) b); view = v }
accepted v (call.Record b) rs = record { reply = known (slice_index_or v.blocks b first_record); view = v }

abbrev pub outcome_at : Option Fault → View → Call → List ℕ → Outcome
outcome_at (Some f) v c rs = record { reply = refused f; view = v }
outcome_at None v c rs = accepted v c rs

abbrev pub outcome : View → ℕ → Call → ℕ → List ℕ → Outcome
outcome v room c z rs = outcome_at (refusal v room c z) v c rs

-- the cycles that it puts; none where it is refused before the chip
abbrev pub cycles_at : Option Fault → View → Call → List ℕ → List ℕ → List Cycle
cycles_at (Some f) v c bs rs = []
cycles_at None v c bs rs = cycles v.part v.polls c bs rs

abbrev pub call_cycles : View → ℕ → Call → List ℕ → List ℕ → List Cycle
call_cycles v room c bs rs = cycles_at (refusal v room c (length bs)) v c bs rs
