-- The refusals of a call: their numbers, where each is made, and the block and page concerned.
use Rattle.std.specs.Prelude.{ℕ, List, [], ◌++◌, Some, None, Option, codes, decimal}
use Rattle.std.specs.Option.{option_map, option_flatten}
use Rattle.flash.specs.declared.fault.Concern.{Concern}
use Rattle.flash.specs.declared.fault.Concern.TheVariants as concern
use Rattle.flash.specs.declared.fault.Fault.{Fault}
use Rattle.flash.specs.declared.fault.Fault.TheVariants as fault
use Rattle.flash.specs.declared.fault.Place.{Place}
use Rattle.flash.specs.declared.fault.Place.TheVariants as place
use Rattle.flash.specs.declared.page.Page.{Page}

abbrev pub number_of : Fault → ℕ
number_of fault.Stuck = 1
number_of fault.SlipOut = 2
number_of fault.WrongSlip = 3
number_of fault.Identified = 4
number_of (fault.NoSuchBlock b) = 5
number_of (fault.NoSuchPage p) = 6
number_of (fault.NoSuchSpan p) = 7
number_of (fault.MarkUnread p) = 8
number_of (fault.UnfitBlock p) = 9
number_of (fault.StaleBlock p) = 10
number_of (fault.PageOrder p) = 11
number_of (fault.TooManyPrograms p) = 12
number_of (fault.NoRoom p) = 13
number_of (fault.Timeout p) = 14
number_of fault.UnknownPart = 15
number_of (fault.WorkFailed p) = 16
number_of (fault.WorkProtected p) = 17

abbrev pub place_of : Fault → Place
place_of fault.Stuck = place.State
place_of fault.SlipOut = place.State
place_of fault.WrongSlip = place.State
place_of fault.Identified = place.State
place_of (fault.NoSuchBlock b) = place.Arguments
place_of (fault.NoSuchPage p) = place.Arguments
place_of (fault.NoSuchSpan p) = place.Arguments
place_of (fault.MarkUnread p) = place.Record
place_of (fault.UnfitBlock p) = place.Record
place_of (fault.StaleBlock p) = place.Record
place_of (fault.PageOrder p) = place.Record
place_of (fault.TooManyPrograms p) = place.Record
place_of (fault.NoRoom p) = place.Port
place_of (fault.Timeout p) = place.Chip
place_of fault.UnknownPart = place.Chip
place_of (fault.WorkFailed p) = place.Chip
place_of (fault.WorkProtected p) = place.Chip

-- what is concerned: nothing, a block alone, or a page of a block
abbrev pub concerned_with : Option Page → Option Concern
concerned_with None = None
concerned_with (Some p) = Some (concern.One p)

abbrev pub concerned : Fault → Option Concern
concerned fault.Stuck = None
concerned fault.SlipOut = None
concerned fault.WrongSlip = None
concerned fault.Identified = None
concerned (fault.NoSuchBlock b) = Some (concern.Block b)
concerned (fault.NoSuchPage p) = Some (concern.One p)
concerned (fault.NoSuchSpan p) = Some (concern.One p)
concerned (fault.MarkUnread p) = Some (concern.One p)
concerned (fault.UnfitBlock p) = Some (concern.One p)
concerned (fault.StaleBlock p) = Some (concern.One p)
concerned (fault.PageOrder p) = Some (concern.One p)
concerned (fault.TooManyPrograms p) = Some (concern.One p)
concerned (fault.NoRoom p) = concerned_with p
concerned (fault.Timeout p) = concerned_with p
concerned fault.UnknownPart = None
concerned (fault.WorkFailed p) = Some (concern.One p)
concerned (fault.WorkProtected p) = Some (concern.One p)

abbrev pub block_in : Concern → ℕ
block_in (concern.Block b) = b
block_in (concern.One p) = p.block

abbrev pub page_in : Concern → Option ℕ
page_in (concern.Block b) = None
page_in (concern.One p) = Some p.page

abbrev pub block_concerned : Fault → Option ℕ
block_concerned f = option_map block_in (concerned f)

abbrev pub page_concerned : Fault → Option ℕ
page_concerned f = option_flatten (option_map page_in (concerned f))

-- a refusal as text
abbrev pub place_name : Place → List ℕ
place_name place.State = codes "state"
place_name place.Arguments = codes "arguments"
place_name place.Record = codes "record"
place_name place.Port = codes "port"
place_name place.Chip = codes "chip"

abbrev with_number : List ℕ → Option ℕ → List ℕ
with_number word None = []
with_number word (Some n) = word ++ decimal n

abbrev pub fault_text : Fault → List ℕ
fault_text f =
    codes "refused " ++ (decimal (number_of f) ++ (codes " " ++ (place_name (place_of f)
    ++ (with_number (codes " block ") (block_concerned f) ++ with_number (codes " page ") (page_concerned f)))))
