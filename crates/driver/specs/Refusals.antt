-- Where a call is turned away before anything is put: the first reason that holds.
use Rattle.std.specs.Prelude.{ℕ, ◌+◌, Bool, true, false, cond, not, ◌&&◌, List, Some, None, Option, ◌==◌, nat_le, nat_lt, slice_index_or}
use Rattle.flash.specs.Records.{first_record}
use Rattle.flash.specs.declared.address.Column.{Column}
use Rattle.flash.specs.declared.fault.Fault.{Fault}
use Rattle.flash.specs.declared.fault.Fault.TheVariants as fault
use Rattle.flash.specs.declared.page.Page.{Page}
use Rattle.flash.specs.declared.part.Part.{Part}
use Rattle.flash.specs.declared.record.BlockRecord.{BlockRecord}
use Rattle.bus.specs.States.{blocks_in, allowed_in, known}
use Rattle.record.specs.Judgements.{or_else, unfit, unready}
use Rattle.calls.specs.Table.{slip_page, chain_page, most}
use Rattle.calls.specs.declared.call.Call.{Call}
use Rattle.calls.specs.declared.call.Call.TheVariants as call
use Rattle.driver.specs.Views.{View, block_page, slip_out, is_stuck, in_chain}
use Rattle.driver.specs.declared.standing.Standing.{Standing}
use Rattle.driver.specs.declared.standing.Standing.TheVariants as standing

abbrev unless : Bool → Fault → Option Fault
unless b f = cond b None (Some f)

-- ## State

-- a call that takes no slip
abbrev pub free_fault : Standing → Option Fault
free_fault standing.Ready = None
free_fault standing.Stuck = Some fault.Stuck
free_fault (standing.Erasing b) = Some fault.SlipOut
free_fault (standing.Programming p) = Some fault.SlipOut
free_fault (standing.Chaining p) = Some fault.SlipOut

abbrev pub reset_fault : Standing → Option Fault
reset_fault standing.Ready = None
reset_fault standing.Stuck = None
reset_fault (standing.Erasing b) = Some fault.SlipOut
reset_fault (standing.Programming p) = Some fault.SlipOut
reset_fault (standing.Chaining p) = Some fault.SlipOut

-- a call that takes this slip, of a kind that it takes
abbrev pub is_out : Option ℕ → ℕ → Bool
is_out None n = false
is_out (Some m) n = m == n

abbrev pub slip_fault : Standing → ℕ → Bool → Option Fault
slip_fault s n kind = cond (is_stuck s) (Some fault.Stuck) (unless (is_out (slip_out s) n && kind) fault.WrongSlip)

abbrev pub state_fault : Option Part → Standing → Call → Option Fault
state_fault o s call.Identify = or_else (free_fault s) (unless (not (known o)) fault.Identified)
state_fault o s (call.Look p) = free_fault s
state_fault o s call.Close = None
state_fault o s (call.Read p c len) = free_fault s
state_fault o s (call.Erase b) = free_fault s
state_fault o s (call.Program p c) = free_fault s
state_fault o s (call.CacheFirst p c) = free_fault s
state_fault o s (call.CacheNext n g c) = slip_fault s n (in_chain s)
state_fault o s (call.CacheLast n g c) = slip_fault s n (in_chain s)
state_fault o s (call.Copy p q) = free_fault s
state_fault o s (call.Settle n) = slip_fault s n (not (in_chain s))
state_fault o s (call.Abandon n) = slip_fault s n true
state_fault o s call.Reset = reset_fault s
state_fault o s (call.Pick b) = None
state_fault o s (call.Record b) = None

-- ## Arguments

abbrev pub block_fault : Option Part → ℕ → Option Fault
block_fault o b = unless (nat_lt b (blocks_in o)) (fault.NoSuchBlock b)

-- a page below a limit: 64, or 2 for a mark
abbrev pub page_fault : Option Part → ℕ → Page → Option Fault
page_fault o limit p = or_else (block_fault o p.block) (unless (nat_lt p.page limit) (fault.NoSuchPage p))

abbrev pub span_fault : Page → Column → ℕ → Option Fault
span_fault p c len = unless (nat_lt 0 len && nat_le (c.number + len) 2112) (fault.NoSuchSpan p)

abbrev pub page_span_fault : Option Part → Page → Column → ℕ → Option Fault
page_span_fault o p c len = or_else (page_fault o 64 p) (span_fault p c len)

abbrev pub argument_fault : Option Part → Call → ℕ → Option Fault
argument_fault o call.Identify z = None
argument_fault o (call.Look p) z = page_fault o 2 p
argument_fault o call.Close z = None
argument_fault o (call.Read p c len) z = page_span_fault o p c len
argument_fault o (call.Erase b) z = block_fault o b
argument_fault o (call.Program p c) z = page_span_fault o p c z
argument_fault o (call.CacheFirst p c) z = page_span_fault o p c z
argument_fault o (call.CacheNext n g c) z = page_span_fault o (chain_page n g) c z
argument_fault o (call.CacheLast n g c) z = page_span_fault o (chain_page n g) c z
argument_fault o (call.Copy p q) z = or_else (page_fault o 64 p) (page_fault o 64 q)
argument_fault o (call.Settle n) z = None
argument_fault o (call.Abandon n) z = None
argument_fault o call.Reset z = None
argument_fault o (call.Pick b) z = None
argument_fault o (call.Record b) z = block_fault o b

-- ## Record

abbrev pub program_fault : Option Part → List BlockRecord → Page → Bool → Option Fault
program_fault o ks p chain = or_else (unfit p (slice_index_or ks p.block first_record)) (unready p chain (allowed_in o) (slice_index_or ks p.block first_record).pages)

abbrev pub record_fault : Option Part → List BlockRecord → Call → Option Fault
record_fault o ks call.Identify = None
record_fault o ks (call.Look p) = None
record_fault o ks call.Close = None
record_fault o ks (call.Read p c len) = None
record_fault o ks (call.Erase b) = unfit (block_page b) (slice_index_or ks b first_record)
record_fault o ks (call.Program p c) = program_fault o ks p false
record_fault o ks (call.CacheFirst p c) = program_fault o ks p false
record_fault o ks (call.CacheNext n g c) = program_fault o ks (chain_page n g) true
record_fault o ks (call.CacheLast n g c) = program_fault o ks (chain_page n g) true
record_fault o ks (call.Copy p q) = program_fault o ks q false
record_fault o ks (call.Settle n) = None
record_fault o ks (call.Abandon n) = None
record_fault o ks call.Reset = None
record_fault o ks (call.Pick b) = None
record_fault o ks (call.Record b) = None

-- ## Port

-- the page that a call or its slip names; of a copy the destination
abbrev pub page_named : Call → Option Page
page_named call.Identify = None
page_named (call.Look p) = Some p
page_named call.Close = None
page_named (call.Read p c len) = Some p
page_named (call.Erase b) = Some (block_page b)
page_named (call.Program p c) = Some p
page_named (call.CacheFirst p c) = Some p
page_named (call.CacheNext n g c) = Some (chain_page n g)
page_named (call.CacheLast n g c) = Some (chain_page n g)
page_named (call.Copy p q) = Some q
page_named (call.Settle n) = Some (slip_page n)
page_named (call.Abandon n) = Some (slip_page n)
page_named call.Reset = None
page_named (call.Pick b) = None
page_named (call.Record b) = None

abbrev pub port_fault : ℕ → ℕ → Option Page → Option Fault
port_fault room need p = cond (nat_lt room need) (Some (fault.NoRoom p)) None

-- ## The first of them, on a port with this room and with so many bytes to program
unfoldable pub refusal : View → ℕ → Call → ℕ → Option Fault
refusal v room c z =
    or_else (state_fault v.part v.standing c)
    (or_else (argument_fault v.part c z)
    (or_else (record_fault v.part v.blocks c) (port_fault room (most v.part v.polls c z) (page_named c))))
