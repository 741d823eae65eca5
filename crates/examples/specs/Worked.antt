-- Worked examples, computed from the definitions that the calls' promises cite.
use Rattle.std.specs.Prelude.{◌≡◌, ℕ, false, List, [], ◌∷◌, Some, None, Option}
use Rattle.flash.specs.Addresses.{row_at}
use Rattle.flash.specs.Faults.{number_of}
use Rattle.flash.specs.Records.{first_record}
use Rattle.flash.specs.declared.address.Column.{Column}
use Rattle.flash.specs.declared.cycle.Cycle.{Cycle}
use Rattle.flash.specs.declared.cycle.Kind.TheVariants.{Command, Address, DataIn}
use Rattle.flash.specs.declared.fault.Fault.{Fault}
use Rattle.flash.specs.declared.fault.Fault.TheVariants as fault
use Rattle.flash.specs.declared.page.Page.{Page}
use Rattle.flash.specs.declared.part.Part.TheVariants.{OneGbit, TwoGbit}
use Rattle.flash.specs.declared.record.BlockRecord.{BlockRecord}
use Rattle.flash.specs.declared.record.Mark.TheVariants.{Clean, Marked}
use Rattle.flash.specs.declared.record.Pages.{Pages}
use Rattle.flash.specs.declared.record.Pages.TheVariants.{Stale, Blank, Last}
use Rattle.bus.specs.declared.act.Confirm.TheVariants as confirm
use Rattle.commands.specs.Sequences.{row_bytes}
use Rattle.calls.specs.Deeds.{decode, erase, program}
use Rattle.calls.specs.Table.{cycles}
use Rattle.calls.specs.declared.call.Call.TheVariants as call
use Rattle.driver.specs.Outcomes.{Reply, done, refused, outcome}
use Rattle.driver.specs.Refusals.{refusal}
use Rattle.driver.specs.Views.{View, program_slip}
use Rattle.driver.specs.declared.standing.Standing.{Standing}
use Rattle.driver.specs.declared.standing.Standing.TheVariants as standing

abbrev command : ℕ → Cycle
command b = record { kind = Command; byte = b }

abbrev address : ℕ → Cycle
address b = record { kind = Address; byte = b }

abbrev given : ℕ → Cycle
given b = record { kind = DataIn; byte = b }

abbrev column : ℕ → Column
column n = record { number = n }

abbrev page : ℕ → ℕ → Page
page b p = record { block = b; page = p }

-- a block that is clean, with these pages
abbrev clean : Pages → BlockRecord
clean ps = record { mark0 = Clean; mark1 = Clean; failed = false; pages = ps }

-- a session on the 1 Gbit part: nothing is known of block 0, this of block 1, and any others follow
abbrev session : BlockRecord → List BlockRecord → Standing → View
session k ks s = record { part = Some OneGbit; polls = 2; blocks = first_record ∷ k ∷ ks; standing = s }

-- the number of a refusal, or nought
abbrev numbered : Option Fault → ℕ
numbered None = 0
numbered (Some f) = number_of f

-- the number with which a program of block 1 is refused; 0 where it passes
abbrev program_refusal : Pages → List BlockRecord → ℕ → ℕ → ℕ → ℕ → ℕ
program_refusal ps ks p c len room = numbered (refusal (session (clean ps) ks standing.Ready) room (call.Program (page 1 p) (column c)) len)

-- a program of a page of block 1, and its settle on C0h
abbrev programmed_once : ℕ → View → View
programmed_once p v = (outcome (outcome v 65535 (call.Program (page 1 p) (column 0)) 1 []).view 65535 (call.Settle (program_slip (page 1 p))) 0 (0xC0 ∷ [])).view

-- what a settle answers to these status bytes
abbrev settle_answer : List BlockRecord → List ℕ → Reply
settle_answer ks rs = (outcome (session (clean Blank) ks (standing.Programming (page 1 0))) 65535 (call.Settle (program_slip (page 1 0))) 0 rs).reply

pub record Worked : Type 0 where
  -- an erase of block 5 of the 1 Gbit part, and of block 1025 of the 2 Gbit part; the reader tells them back
  pub erase_one : (n : ℕ) (rs : List ℕ) → cycles (Some OneGbit) n (call.Erase 5) [] rs ≡ command 0x60 ∷ address 0x40 ∷ address 0x01 ∷ command 0xD0 ∷ []
  pub erase_two : (n : ℕ) (rs : List ℕ) → cycles (Some TwoGbit) n (call.Erase 1025) [] rs ≡ command 0x60 ∷ address 0x40 ∷ address 0x00 ∷ address 0x01 ∷ command 0xD0 ∷ []
  pub erase_told : decode (Some TwoGbit) (command 0x60 ∷ address 0x40 ∷ address 0x00 ∷ address 0x01 ∷ command 0xD0 ∷ []) ≡ erase 1025 ∷ []
  -- the last page of the 1 Gbit part, and the block after it
  pub last_row : row_bytes (Some OneGbit) (row_at (page 1023 63)) ≡ 0xFF ∷ 0xFF ∷ []
  pub no_block : (k : BlockRecord) (ks : List BlockRecord) (room : ℕ) → refusal (session k ks standing.Ready) room (call.Erase 1024) 0 ≡ Some (fault.NoSuchBlock 1024)
  -- a program of two bytes: eight cycles, so room 8 suffices and room 7 does not
  pub program_puts : (n : ℕ) (rs : List ℕ) → cycles (Some OneGbit) n (call.Program (page 1 0) (column 0)) (0xAA ∷ 0x55 ∷ []) rs
      ≡ command 0x80 ∷ address 0x00 ∷ address 0x00 ∷ address 0x40 ∷ address 0x00 ∷ given 0xAA ∷ given 0x55 ∷ command 0x10 ∷ []
  pub program_told : decode (Some OneGbit) (command 0x80 ∷ address 0x00 ∷ address 0x00 ∷ address 0x40 ∷ address 0x00 ∷ given 0xAA ∷ given 0x55 ∷ command 0x10 ∷ [])
      ≡ program confirm.Program (record { block = 1; page = 0; column = 0 }) (0xAA ∷ 0x55 ∷ []) ∷ []
  pub room_eight : (ks : List BlockRecord) → program_refusal Blank ks 0 0 2 8 ≡ 0
  pub room_seven : (ks : List BlockRecord) → program_refusal Blank ks 0 0 2 7 ≡ 13
  -- the last column takes one byte and no more
  pub last_column : (ks : List BlockRecord) → program_refusal Blank ks 0 2111 1 65535 ≡ 0
  pub past_column : (ks : List BlockRecord) → program_refusal Blank ks 0 2111 2 65535 ≡ 7
  pub no_column : (ks : List BlockRecord) → program_refusal Blank ks 0 2112 1 65535 ≡ 7
  -- after four programs of a last page a fifth is one too many
  pub four_programs : (ks : List BlockRecord) → programmed_once 3 (programmed_once 3 (programmed_once 3 (programmed_once 3 (session (clean Blank) ks standing.Ready)))) ≡ session (clean (Last 3 4)) ks standing.Ready
  pub fifth_program : (ks : List BlockRecord) → program_refusal (Last 3 4) ks 3 0 1 65535 ≡ 12
  -- after page 3, page 2 is out of order and page 5 passes
  pub lower_page : (ks : List BlockRecord) → program_refusal (Last 3 1) ks 2 0 1 65535 ≡ 11
  pub higher_page : (ks : List BlockRecord) → program_refusal (Last 3 1) ks 5 0 1 65535 ≡ 0
  -- a mark that reads FEh
  pub marked : (ks : List BlockRecord) → (outcome (session first_record ks standing.Ready) 65535 (call.Look (page 1 0)) 0 (0xC0 ∷ 0xFE ∷ [])).view
      ≡ session (record { mark0 = Marked; mark1 = first_record.mark1; failed = false; pages = Stale }) ks standing.Ready
  pub marked_refused : (ks : List BlockRecord) → numbered (refusal (session (record { mark0 = Marked; mark1 = first_record.mark1; failed = false; pages = Stale }) ks standing.Ready) 65535 (call.Erase 1) 0) ≡ 9
  -- a settle by the status that it gets; with 80h it asks again
  pub settle_done : (ks : List BlockRecord) → settle_answer ks (0xC0 ∷ []) ≡ done
  pub settle_failed : (ks : List BlockRecord) → settle_answer ks (0xC1 ∷ []) ≡ refused (fault.WorkFailed (page 1 0))
  pub settle_protected : (ks : List BlockRecord) → settle_answer ks (0x40 ∷ []) ≡ refused (fault.WorkProtected (page 1 0))
  pub settle_both : (ks : List BlockRecord) → settle_answer ks (0x41 ∷ []) ≡ refused (fault.WorkFailed (page 1 0))
  pub settle_again : (ks : List BlockRecord) → settle_answer ks (0x80 ∷ 0xC0 ∷ []) ≡ done
