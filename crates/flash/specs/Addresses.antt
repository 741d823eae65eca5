-- Numbers as address bytes, and back.
use Rattle.std.specs.Prelude.{ℕ, zero, suc, ◌+◌, ◌*◌, ◌/◌, ◌%◌, Bool, cond, List, [], ◌∷◌, ◌==◌, nat_lt}
use Rattle.flash.specs.declared.address.Column.{Column}
use Rattle.flash.specs.declared.address.Row.{Row}
use Rattle.flash.specs.declared.page.Page.{Page}

-- the n lowest bytes of a number, lowest first
abbrev pub low_bytes : ℕ → ℕ → List ℕ
low_bytes zero w = []
low_bytes (suc n) w = (w % 256) ∷ low_bytes n (w / 256)

-- the number that has these bytes, lowest first
abbrev pub number : List ℕ → ℕ
number [] = 0
number (b ∷ bs) = b + 256 * number bs

-- the column and the row that have these address bytes
abbrev pub column_of : List ℕ → Column
column_of bs = record { number = number bs }

abbrev pub row_of : List ℕ → Row
row_of bs = record { number = number bs }

-- columns 0 to 2111 are in the page; the one after a column, up to the page's end
abbrev pub in_page : Column → Bool
in_page c = nat_lt c.number 2112

abbrev pub next_column : Column → Column
next_column c = cond (in_page c) (record { number = c.number + 1 }) c

-- the column of a page's factory mark
abbrev pub at_mark : Column → Bool
at_mark c = c.number == 2048

-- a row is 64 times its block, and its page
abbrev pub block_of : Row → ℕ
block_of r = r.number / 64

abbrev pub page_of : Row → ℕ
page_of r = r.number % 64

-- the row of a page that a call names
abbrev pub row_at : Page → Row
row_at p = record { number = 64 * p.block + p.page }
