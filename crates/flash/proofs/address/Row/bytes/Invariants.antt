-- what is written, and the bytes of what is left, are the bytes of the row
use Rattle.std.proofs.Common.{◌≡◌, ◌-◌, ◌++◌, length, take}
use Rattle.flash.specs.Addresses.{low_bytes}
use Rattle.flash.proofs.address.Row.bytes.Given as goal

abbrev pub invariant-loop-byte : goal.invariant-loop-byte
invariant-loop-byte g l =
    (take l.byte-index l.byte-items ++ low_bytes (g.row.N - l.byte-index) l.rest ≡ low_bytes g.row.N l.initial.rest)
    × (length l.byte-items ≡ g.row.N)
