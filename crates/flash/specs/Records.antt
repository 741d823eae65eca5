-- What is known of one block, and how work on it changes that.
use Rattle.std.specs.Prelude.{ℕ, ◌+◌, List, ◌++◌, codes, decimal, Bool, true, false, cond, not, ◌&&◌, ◌||◌, ◌==◌, nat_le, nat_lt}
use Rattle.flash.specs.declared.record.Mark.{Mark}
use Rattle.flash.specs.declared.record.Mark.TheVariants.{Unread, Clean, Marked}
use Rattle.flash.specs.declared.record.Pages.{Pages}
use Rattle.flash.specs.declared.record.Pages.TheVariants.{Stale, Blank, Last}
use Rattle.flash.specs.declared.record.BlockRecord.{BlockRecord}
use Rattle.flash.specs.declared.status.Verdict.{Verdict}
use Rattle.flash.specs.declared.status.Verdict.TheVariants.{Good, Failed, Protected}

abbrev pub first_record : BlockRecord
first_record = record { mark0 = Unread; mark1 = Unread; failed = false; pages = Stale }

-- a block may be erased or programmed: not failed, both marks clean
abbrev pub clean : Mark → Bool
clean Unread = false
clean Clean = true
clean Marked = false

abbrev pub fit : BlockRecord → Bool
fit k = not k.failed && (clean k.mark0 && clean k.mark1)

-- page order: a stale block, a page below the last or, in a chain, the last page
abbrev pub out_of_order : Pages → Bool → ℕ → Bool
out_of_order Stale in_chain page = true
out_of_order Blank in_chain page = false
out_of_order (Last p n) in_chain page = nat_lt page p || (in_chain && page == p)

-- the last page, programmed as often as is allowed
abbrev pub programmed_out : ℕ → Pages → ℕ → Bool
programmed_out allowed Stale page = false
programmed_out allowed Blank page = false
programmed_out allowed (Last p n) page = page == p && nat_le allowed n

-- a program of a fresh block's page counts: the last page again, or a higher one, or the first
abbrev pub pages_after : ℕ → Pages → ℕ → Pages
pages_after allowed Stale page = Stale
pages_after allowed Blank page = Last page 1
pages_after allowed (Last p n) page =
    cond (nat_lt page p) (Last p n) (cond (page == p) (Last page (cond (nat_lt n allowed) (n + 1) allowed)) (Last page 1))

abbrev with_pages : Pages → BlockRecord → BlockRecord
with_pages ps k = record { mark0 = k.mark0; mark1 = k.mark1; failed = k.failed; pages = ps }

abbrev failing : BlockRecord → BlockRecord
failing k = record { mark0 = k.mark0; mark1 = k.mark1; failed = true; pages = k.pages }

abbrev pub stale : BlockRecord → BlockRecord
stale k = with_pages Stale k

abbrev pub programmed : ℕ → ℕ → BlockRecord → BlockRecord
programmed allowed page k = with_pages (pages_after allowed k.pages page) k

-- the work on a block ends with a verdict
abbrev pub program_ended : Verdict → BlockRecord → BlockRecord
program_ended Good k = k
program_ended Failed k = failing k
program_ended Protected k = k

abbrev pub erase_ended : Verdict → BlockRecord → BlockRecord
erase_ended Good k = with_pages Blank k
erase_ended Failed k = failing k
erase_ended Protected k = k

-- the first byte read of a mark decides it
abbrev pub read_as : Mark → ℕ → Mark
read_as Unread b = cond (b == 0xFF) Clean Marked
read_as Clean b = Clean
read_as Marked b = Marked

abbrev pub mark_read : ℕ → ℕ → BlockRecord → BlockRecord
mark_read page b k =
    cond (page == 0) (record { mark0 = read_as k.mark0 b; mark1 = k.mark1; failed = k.failed; pages = k.pages })
    (cond (page == 1) (record { mark0 = k.mark0; mark1 = read_as k.mark1 b; failed = k.failed; pages = k.pages })
    k)

-- what is known of a block as text
abbrev pub mark_name : Mark → List ℕ
mark_name Unread = codes "unread"
mark_name Clean = codes "clean"
mark_name Marked = codes "marked"

abbrev pub pages_text : Pages → List ℕ
pages_text Stale = codes "stale"
pages_text Blank = codes "blank"
pages_text (Last p n) = codes "last " ++ (decimal p ++ (codes " count " ++ decimal n))

abbrev health_name : Bool → List ℕ
health_name true = codes "failed"
health_name false = codes "sound"

abbrev pub record_text : BlockRecord → List ℕ
record_text k =
    codes "record " ++ (mark_name k.mark0 ++ (codes " " ++ (mark_name k.mark1 ++ (codes " " ++ (health_name k.failed
    ++ (codes " " ++ pages_text k.pages))))))
