-- Which numbers the reasons to turn a call away have: state 1 to 4, arguments 5 to 7, record 8 to 12, port 13.
use Rattle.std.proofs.Common.{◌≡◌, ℕ, ◌≤◌, Bool, true, false, cond, not, ◌&&◌, ◌||◌, List, get_or, Some, None, Option, subst, arith, lit≤}
use Rattle.flash.specs.Faults.{number_of}
use Rattle.flash.specs.Records.{first_record, out_of_order, programmed_out}
use Rattle.flash.specs.declared.address.Column.{Column}
use Rattle.flash.specs.declared.fault.Fault.{Fault}
use Rattle.flash.specs.declared.fault.Fault.TheVariants as fault
use Rattle.flash.specs.declared.page.Page.{Page}
use Rattle.flash.specs.declared.part.Part.{Part}
use Rattle.flash.specs.declared.record.BlockRecord.{BlockRecord}
use Rattle.flash.specs.declared.record.Pages.{Pages}
use Rattle.bus.specs.States.{allowed_in, known}
use Rattle.record.specs.Judgements.{or_else, is_unread, is_marked, is_stale, unfit, unready}
use Rattle.calls.specs.Table.{chain_page}
use Rattle.calls.specs.declared.call.Call.{Call}
use Rattle.calls.specs.declared.call.Call.TheVariants as call
use Rattle.driver.specs.Views.{View, block_page, slip_out, is_stuck, in_chain}
use Rattle.driver.specs.Refusals.{free_fault, reset_fault, is_out, slip_fault, state_fault, block_fault, page_fault, page_span_fault, argument_fault, program_fault, record_fault, page_named, refusal}
use Rattle.driver.specs.declared.standing.Standing.{Standing}
use Rattle.driver.specs.declared.standing.Standing.TheVariants as standing

-- a reason whose number is from a to b, or none
abbrev pub Within : ℕ → ℕ → Option Fault → Type 0
Within a b None = Unit {0}
Within a b (Some f) = (a ≤ number_of f) × (number_of f ≤ b)

pub of_reason : (a b : ℕ) {o : Option Fault} {f : Fault} → Within a b o → o ≡ Some f → (a ≤ number_of f) × (number_of f ≤ b)
of_reason a b w e = subst (Within a b) e w

wider : (a b c d : ℕ) (o : Option Fault) → c ≤ a → b ≤ d → Within a b o → Within c d o
wider a b c d None i j w = tt
wider a b c d (Some f) i j w = (omega arith, omega arith)

either : (a b : ℕ) (x y : Option Fault) → Within a b x → Within a b y → Within a b (or_else x y)
either a b None y i j = j
either a b (Some f) y i j = i

by_test : (a b : ℕ) (t : Bool) (x y : Option Fault) → Within a b x → Within a b y → Within a b (cond t x y)
by_test a b true x y i j = i
by_test a b false x y i j = j

free_within : (s : Standing) → Within 1 4 (free_fault s)
free_within standing.Ready = tt
free_within standing.Stuck = (lit≤ tt, lit≤ tt)
free_within (standing.Erasing b) = (lit≤ tt, lit≤ tt)
free_within (standing.Programming p) = (lit≤ tt, lit≤ tt)
free_within (standing.Chaining p) = (lit≤ tt, lit≤ tt)

reset_within : (s : Standing) → Within 1 4 (reset_fault s)
reset_within standing.Ready = tt
reset_within standing.Stuck = tt
reset_within (standing.Erasing b) = (lit≤ tt, lit≤ tt)
reset_within (standing.Programming p) = (lit≤ tt, lit≤ tt)
reset_within (standing.Chaining p) = (lit≤ tt, lit≤ tt)

slip_within : (s : Standing) (n : ℕ) (kind : Bool) → Within 1 4 (slip_fault s n kind)
slip_within s n kind =
    by_test 1 4 (is_stuck s) (Some fault.Stuck) (cond (is_out (slip_out s) n && kind) None (Some fault.WrongSlip)) (lit≤ tt, lit≤ tt)
    (by_test 1 4 (is_out (slip_out s) n && kind) None (Some fault.WrongSlip) tt (lit≤ tt, lit≤ tt))

pub state_within : (o : Option Part) (s : Standing) (c : Call) → Within 1 4 (state_fault o s c)
state_within o s call.Identify = either 1 4 (free_fault s) _ (free_within s) (by_test 1 4 (not (known o)) None (Some fault.Identified) tt (lit≤ tt, lit≤ tt))
state_within o s (call.Look p) = free_within s
state_within o s call.Close = tt
state_within o s (call.Read p c len) = free_within s
state_within o s (call.Erase b) = free_within s
state_within o s (call.Program p c) = free_within s
state_within o s (call.CacheFirst p c) = free_within s
state_within o s (call.CacheNext n g c) = slip_within s n (in_chain s)
state_within o s (call.CacheLast n g c) = slip_within s n (in_chain s)
state_within o s (call.Copy p q) = free_within s
state_within o s (call.Settle n) = slip_within s n (not (in_chain s))
state_within o s (call.Abandon n) = slip_within s n true
state_within o s call.Reset = reset_within s
state_within o s (call.Pick b) = tt
state_within o s (call.Record b) = tt

block_within : (o : Option Part) (b : ℕ) → Within 5 7 (block_fault o b)
block_within o b = by_test 5 7 _ None (Some (fault.NoSuchBlock b)) tt (lit≤ tt, lit≤ tt)

page_within : (o : Option Part) (m : ℕ) (p : Page) → Within 5 7 (page_fault o m p)
page_within o m p = either 5 7 (block_fault o p.block) _ (block_within o p.block) (by_test 5 7 _ None (Some (fault.NoSuchPage p)) tt (lit≤ tt, lit≤ tt))

span_within : (o : Option Part) (p : Page) (c : Column) (z : ℕ) → Within 5 7 (page_span_fault o p c z)
span_within o p c z = either 5 7 (page_fault o 64 p) _ (page_within o 64 p) (by_test 5 7 _ None (Some (fault.NoSuchSpan p)) tt (lit≤ tt, lit≤ tt))

pub argument_within : (o : Option Part) (c : Call) (z : ℕ) → Within 5 7 (argument_fault o c z)
argument_within o call.Identify z = tt
argument_within o (call.Look p) z = page_within o 2 p
argument_within o call.Close z = tt
argument_within o (call.Read p c len) z = span_within o p c len
argument_within o (call.Erase b) z = block_within o b
argument_within o (call.Program p c) z = span_within o p c z
argument_within o (call.CacheFirst p c) z = span_within o p c z
argument_within o (call.CacheNext n g c) z = span_within o (chain_page n g) c z
argument_within o (call.CacheLast n g c) z = span_within o (chain_page n g) c z
argument_within o (call.Copy p q) z = either 5 7 (page_fault o 64 p) _ (page_within o 64 p) (page_within o 64 q)
argument_within o (call.Settle n) z = tt
argument_within o (call.Abandon n) z = tt
argument_within o call.Reset z = tt
argument_within o (call.Pick b) z = tt
argument_within o (call.Record b) z = block_within o b

unfit_within : (p : Page) (k : BlockRecord) → Within 8 12 (unfit p k)
unfit_within p k =
    by_test 8 12 (not (is_marked k.mark0 || is_marked k.mark1) && (is_unread k.mark0 || is_unread k.mark1)) (Some (fault.MarkUnread p)) _ (lit≤ tt, lit≤ tt)
    (by_test 8 12 ((is_marked k.mark0 || is_marked k.mark1) || k.failed) (Some (fault.UnfitBlock p)) None (lit≤ tt, lit≤ tt) tt)

unready_within : (p : Page) (chain : Bool) (allowed : ℕ) (ps : Pages) → Within 8 12 (unready p chain allowed ps)
unready_within p chain allowed ps =
    by_test 8 12 (is_stale ps) (Some (fault.StaleBlock p)) _ (lit≤ tt, lit≤ tt)
    (by_test 8 12 (out_of_order ps chain p.page) (Some (fault.PageOrder p)) _ (lit≤ tt, lit≤ tt)
    (by_test 8 12 (programmed_out allowed ps p.page) (Some (fault.TooManyPrograms p)) None (lit≤ tt, lit≤ tt) tt))

program_within : (o : Option Part) (ks : List BlockRecord) (p : Page) (chain : Bool) → Within 8 12 (program_fault o ks p chain)
program_within o ks p chain =
    either 8 12 (unfit p (get_or ks p.block first_record)) _ (unfit_within p (get_or ks p.block first_record)) (unready_within p chain (allowed_in o) (get_or ks p.block first_record).pages)

pub record_within : (o : Option Part) (ks : List BlockRecord) (c : Call) → Within 8 12 (record_fault o ks c)
record_within o ks call.Identify = tt
record_within o ks (call.Look p) = tt
record_within o ks call.Close = tt
record_within o ks (call.Read p c len) = tt
record_within o ks (call.Erase b) = unfit_within (block_page b) (get_or ks b first_record)
record_within o ks (call.Program p c) = program_within o ks p false
record_within o ks (call.CacheFirst p c) = program_within o ks p false
record_within o ks (call.CacheNext n g c) = program_within o ks (chain_page n g) true
record_within o ks (call.CacheLast n g c) = program_within o ks (chain_page n g) true
record_within o ks (call.Copy p q) = program_within o ks q false
record_within o ks (call.Settle n) = tt
record_within o ks (call.Abandon n) = tt
record_within o ks call.Reset = tt
record_within o ks (call.Pick b) = tt
record_within o ks (call.Record b) = tt

-- of all of them
pub refusal_within : (v : View) (room : ℕ) (c : Call) (z : ℕ) → Within 1 13 (refusal v room c z)
unfolding refusal
refusal_within v room c z =
    either 1 13 (state_fault v.part v.standing c) _ (wider 1 4 1 13 _ (lit≤ tt) (lit≤ tt) (state_within v.part v.standing c))
    (either 1 13 (argument_fault v.part c z) _ (wider 5 7 1 13 _ (lit≤ tt) (lit≤ tt) (argument_within v.part c z))
    (either 1 13 (record_fault v.part v.blocks c) _ (wider 8 12 1 13 _ (lit≤ tt) (lit≤ tt) (record_within v.part v.blocks c)) (by_test 1 13 _ (Some (fault.NoRoom (page_named c))) None (lit≤ tt, lit≤ tt) tt)))
