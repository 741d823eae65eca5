-- The numbers of slips.
use Rattle.std.specs.Prelude.{ℕ, ◌+◌, ◌*◌}
use Rattle.flash.specs.Addresses.{row_at}
use Rattle.flash.specs.declared.page.Page.{Page}
use Rattle.calls.specs.declared.slip.SlipKind.{SlipKind}
use Rattle.calls.specs.declared.slip.SlipKind.TheVariants as kind

abbrev pub kind_number : SlipKind → ℕ
kind_number kind.Erase = 1
kind_number kind.Program = 2
kind_number kind.Chain = 3

-- 8 times the row of the page, and the kind
abbrev pub slip_number : SlipKind → Page → ℕ
slip_number k p = 8 * (row_at p).number + kind_number k
