-- The cells of a model chip: 2,112 bytes a row from row 0 on, as many as its owner lends.
use Rattle.std.specs.Prelude.{ℕ, ◌+◌, ◌-◌, ◌*◌, Bool, cond, ◌&&◌, List, [], ◌∷◌, ◌++◌, take, drop, replicate, bit_and, nat_le, nat_lt, slice_index, slice_index_or}

-- a cell beyond the memory reads FFh
abbrev pub cell_at : List ℕ → ℕ → ℕ
cell_at cells i = slice_index_or cells i 0xFF

-- the cell of a row and a column
abbrev pub cell_of : ℕ → ℕ → ℕ
cell_of row column = 2112 * row + column

-- what a read of a row and a column gives
abbrev pub read_at : List ℕ → ℕ → ℕ → ℕ
read_at cells row column = cell_at cells (cell_of row column)

-- i is one of n cells from base on
abbrev pub among : ℕ → ℕ → ℕ → Bool
among base n i = nat_le base i && nat_lt i (base + n)

-- each cell anew, from its number and what it held; the first has the number i
abbrev pub altered : (ℕ → ℕ → ℕ) → ℕ → List ℕ → List ℕ
altered f i [] = []
altered f i (x ∷ xs) = f i x ∷ altered f (i + 1) xs

-- a block has 64 rows of 2,112 cells, 135,168 in all

-- an erase of the first n cells of those from base on, and a program of them with the bytes of a page
abbrev pub blanked : ℕ → ℕ → ℕ → ℕ → ℕ
blanked base n i x = cond (among base n i) 0xFF x

abbrev pub anded : ℕ → ℕ → List ℕ → ℕ → ℕ → ℕ
anded base n page i x = cond (among base n i) (bit_and x (slice_index page (i - base))) x

abbrev pub block_erased : ℕ → List ℕ → List ℕ
block_erased block cells = altered (blanked (135168 * block) 135168) 0 cells

abbrev pub row_programmed : ℕ → List ℕ → List ℕ → List ℕ
row_programmed row page cells = altered (anded (2112 * row) 2112 page) 0 cells

-- a page of FFh, and the page that a row holds
abbrev pub blank_page : List ℕ
blank_page = replicate 2112 0xFF

abbrev pub row_held : ℕ → List ℕ → List ℕ
row_held row cells = take 2112 (drop (2112 * row) cells ++ blank_page)
