-- The two parts in numbers.
use Rattle.std.specs.Prelude.{◌≡◌, ℕ, cond, List, [], ◌∷◌, Some, None, Option, codes}
use Rattle.std.specs.Str.{bytes_eq}
use Rattle.flash.specs.declared.part.Part.{Part}
use Rattle.flash.specs.declared.part.Part.TheVariants.{OneGbit, TwoGbit}

abbrev pub blocks_of : Part → ℕ
blocks_of OneGbit = 1024
blocks_of TwoGbit = 2048

-- address cycles: two of the column, the rest of the row
abbrev pub address_cycles : Part → ℕ
address_cycles OneGbit = 4
address_cycles TwoGbit = 5

-- programs of one page between two erases of its block
abbrev pub programs_allowed : Part → ℕ
programs_allowed OneGbit = 4
programs_allowed TwoGbit = 4

abbrev pub identity_of : Part → List ℕ
identity_of OneGbit = 0xC8 ∷ 0xD1 ∷ 0x80 ∷ 0x95 ∷ 0x42 ∷ []
identity_of TwoGbit = 0xC8 ∷ 0xDA ∷ 0x90 ∷ 0x95 ∷ 0x44 ∷ []

-- the part that has these five bytes, all of them
abbrev pub identified : List ℕ → Option Part
identified bs =
    cond (bytes_eq bs (identity_of OneGbit)) (Some OneGbit)
    (cond (bytes_eq bs (identity_of TwoGbit)) (Some TwoGbit) None)

-- a part is told by its five bytes and by no others
abbrev pub ToldBy : Option Part → List ℕ → Type 0
ToldBy o bs = (p : Part) → (o ≡ Some p → bs ≡ identity_of p) × (bs ≡ identity_of p → o ≡ Some p)

abbrev pub part_name : Part → List ℕ
part_name OneGbit = codes "1G"
part_name TwoGbit = codes "2G"
