-- Bytes as text, two upper-case hexadecimal digits each, and the byte of two digits.
use Rattle.std.specs.Prelude.{ℕ, ◌+◌, ◌/◌, ◌%◌, cond, List, [], ◌∷◌, Some, None, Option, nat_lt}
use Rattle.std.specs.List.{flat_map}
use Rattle.bus_log.specs.Lines.{hex_of, joined}

abbrev pub hex_digit : ℕ → ℕ
hex_digit n = cond (nat_lt n 10) (48 + n) (55 + n)

-- a space, and the two digits
abbrev pub spaced_hex : ℕ → List ℕ
spaced_hex b = 32 ∷ hex_digit (b / 16) ∷ hex_digit (b % 16) ∷ []

abbrev pub hex_text : List ℕ → List ℕ
hex_text bs = flat_map spaced_hex bs

abbrev pub of_digits : Option ℕ → Option ℕ → Option ℕ
of_digits None l = None
of_digits (Some h) None = None
of_digits (Some h) (Some l) = Some (joined h l)

-- the byte of exactly two hexadecimal digits
abbrev pub byte_of : List ℕ → Option ℕ
byte_of [] = None
byte_of (h ∷ []) = None
byte_of (h ∷ l ∷ []) = of_digits (hex_of h) (hex_of l)
byte_of (h ∷ l ∷ b ∷ bs) = None
