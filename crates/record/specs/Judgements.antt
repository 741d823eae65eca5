-- Whether the record of a block allows work on it; the first reason that holds is given.
use Rattle.std.specs.Prelude.{ℕ, Bool, true, false, cond, not, ◌&&◌, ◌||◌, Some, None, Ok, Err, Option, Result}
use Rattle.flash.specs.Records.{out_of_order, programmed_out}
use Rattle.flash.specs.declared.fault.Fault.{Fault}
use Rattle.flash.specs.declared.fault.Fault.TheVariants as fault
use Rattle.flash.specs.declared.page.Page.{Page}
use Rattle.flash.specs.declared.record.BlockRecord.{BlockRecord}
use Rattle.flash.specs.declared.record.Mark.{Mark}
use Rattle.flash.specs.declared.record.Mark.TheVariants.{Unread, Clean, Marked}
use Rattle.flash.specs.declared.record.Pages.{Pages}
use Rattle.flash.specs.declared.record.Pages.TheVariants.{Stale, Blank, Last}

-- a reason to turn a call away, or none
abbrev pub admitted : Option Fault → Result Unit Fault
admitted None = Ok tt
admitted (Some f) = Err f

abbrev pub or_else : Option Fault → Option Fault → Option Fault
or_else (Some f) g = Some f
or_else None g = g

abbrev pub is_unread : Mark → Bool
is_unread Unread = true
is_unread Clean = false
is_unread Marked = false

abbrev pub is_marked : Mark → Bool
is_marked Unread = false
is_marked Clean = false
is_marked Marked = true

abbrev pub is_stale : Pages → Bool
is_stale Stale = true
is_stale Blank = false
is_stale (Last p n) = false

-- a mark unread and none known to be marked; marked or failed
abbrev pub unfit : Page → BlockRecord → Option Fault
unfit p k =
    cond (not (is_marked k.mark0 || is_marked k.mark1) && (is_unread k.mark0 || is_unread k.mark1)) (Some (fault.MarkUnread p))
    (cond ((is_marked k.mark0 || is_marked k.mark1) || k.failed) (Some (fault.UnfitBlock p)) None)

-- stale; out of order; programmed as often as is allowed
abbrev pub unready : Page → Bool → ℕ → Pages → Option Fault
unready p in_chain allowed ps =
    cond (is_stale ps) (Some (fault.StaleBlock p))
    (cond (out_of_order ps in_chain p.page) (Some (fault.PageOrder p))
    (cond (programmed_out allowed ps p.page) (Some (fault.TooManyPrograms p)) None))
