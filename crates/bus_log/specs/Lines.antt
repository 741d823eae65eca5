-- One line of a log: the kind digit and two hexadecimal digits, spaces around them aside.
use Rattle.std.specs.Prelude.{ℕ, ◌+◌, ◌-◌, ◌*◌, ◌%◌, Bool, cond, ◌&&◌, ◌||◌, Some, None, Option, Ok, Err, Result, ◌==◌, nat_le}
use Rattle.flash.specs.declared.cycle.Cycle.{Cycle}
use Rattle.flash.specs.declared.cycle.Kind.{Kind}
use Rattle.flash.specs.declared.cycle.Kind.TheVariants.{Command, Address, DataIn, DataOut}
use Rattle.bus_log.specs.declared.line.Scan.{Scan}
use Rattle.bus_log.specs.declared.line.Scan.TheVariants as scan
use Rattle.bus_log.specs.declared.line.NotACycle.{NotACycle}

-- a space, a tab or a carriage return
abbrev pub is_space : ℕ → Bool
is_space b = b == 32 || (b == 9 || b == 13)

-- the digits 0 to 3 are the four kinds
abbrev pub kind_of : ℕ → Option Kind
kind_of b =
    cond (b == 48) (Some Command)
    (cond (b == 49) (Some Address)
    (cond (b == 50) (Some DataIn)
    (cond (b == 51) (Some DataOut)
    None)))

abbrev between : ℕ → ℕ → ℕ → Bool
between a b n = nat_le a n && nat_le n b

-- a hexadecimal digit in either case
abbrev pub hex_of : ℕ → Option ℕ
hex_of b =
    cond (between 48 57 b) (Some (b - 48))
    (cond (between 65 70 b) (Some (b - 65 + 10))
    (cond (between 97 102 b) (Some (b - 97 + 10))
    None))

-- the byte of its high and its low half
abbrev pub joined : ℕ → ℕ → ℕ
joined h l = (h % 16) * 16 + l % 16

abbrev pub kind_digit : Option Kind → Scan
kind_digit None = scan.Bad
kind_digit (Some k) = scan.Kind k

abbrev pub begin : ℕ → Scan
begin b = cond (is_space b) scan.Blank (cond (b == 35) scan.Comment (kind_digit (kind_of b)))

abbrev pub first_digit : Kind → Option ℕ → Scan
first_digit k None = scan.Bad
first_digit k (Some h) = scan.High k h

abbrev pub second_digit : Kind → ℕ → Option ℕ → Scan
second_digit k h None = scan.Bad
second_digit k h (Some l) = scan.Whole (record { kind = k; byte = joined h l })

abbrev pub feed : Scan → ℕ → Scan
feed scan.Blank b = begin b
feed scan.Comment b = scan.Comment
feed (scan.Kind k) b = first_digit k (hex_of b)
feed (scan.High k h) b = second_digit k h (hex_of b)
feed (scan.Whole c) b = cond (is_space b) (scan.Whole c) scan.Bad
feed scan.Bad b = scan.Bad

-- the cycle of a whole line, and none of a blank one or a comment
abbrev pub finish : Scan → Result (Option Cycle) NotACycle
finish scan.Blank = Ok None
finish scan.Comment = Ok None
finish (scan.Kind k) = Err (record {})
finish (scan.High k h) = Err (record {})
finish (scan.Whole c) = Ok (Some c)
finish scan.Bad = Err (record {})
