-- Cells altered one after the other.
use Rattle.std.proofs.Common.{◌≡◌, ℕ, zero, suc, ◌+◌, ◌-◌, ◌<◌, ◌≤◌, Bool, true, false, cond, List, [], ◌∷◌, ◌++◌, length, get_or, take, drop, min, sym, refl, ap, ◌∙◌, ⊎_elim, arith}
use lib.Bits.{bit_and}
use borrow.Rule.Slice.PartMut.{put_mid, same_len_mid, mid_len}
use Rattle.std.proofs.lemmas.Nat.{and_le_l}
use Rattle.std.proofs.lemmas.Bool.{cases_lt}
use Rattle.std.proofs.lemmas.Bool.Decides.{nat_tests}
use Rattle.std.proofs.lemmas.List.{get_or-take, get_or-drop, get_or_append_left, get_or-append_right, get_or-replicate, get_or_past, length-append, length-drop, length-replicate, length-take-le, get_or_default, ext_get_or}
use Rattle.chip.specs.Cells.{cell_at, among, altered, blanked, anded, blank_page}

module _ (base k : ℕ) where
  pub among_at : (j : ℕ) → j < k → among base k (base + j) ≡ true
  among_at j h = grind (arith, nat_tests)

-- what an alteration makes of one cell
pub altered_length : (f : ℕ → ℕ → ℕ) (cs : List ℕ) (i : ℕ) → length (altered f i cs) ≡ length cs
altered_length f [] i = refl
altered_length f (x ∷ xs) i = ap suc (altered_length f xs (i + 1))

altered_at : (f : ℕ → ℕ → ℕ) (cs : List ℕ) (i k d : ℕ) → k < length cs → get_or (altered f i cs) k d ≡ f (i + k) (get_or cs k d)
altered_at f [] i k d h = absurd (omega arith)
altered_at f (x ∷ xs) i zero d h = ap (λ n. f n x) (omega arith)
altered_at f (x ∷ xs) i (suc k) d h = altered_at f xs (i + 1) k d (omega arith) ∙ ap (λ n. f n (get_or xs k d)) (omega arith)

module _ (f : ℕ → ℕ → ℕ) (cs : List ℕ) where
  altered_cell : (k : ℕ) → k < length cs → cell_at (altered f 0 cs) k ≡ f k (cell_at cs k)
  altered_cell k h = altered_at f cs 0 k 0xFF h ∙ ap (λ n. f n (cell_at cs k)) (omega arith)

  altered_past : (k : ℕ) → length cs ≤ k → cell_at (altered f 0 cs) k ≡ 0xFF
  altered_past k h = get_or_past (altered f 0 cs) k 0xFF (omega (arith, altered_length f cs 0))

  -- a cell that is left, and cells that stay bytes
  pub altered_else : (k : ℕ) → f k (cell_at cs k) ≡ cell_at cs k → cell_at (altered f 0 cs) k ≡ cell_at cs k
  altered_else k e = ⊎_elim (λ l. altered_cell k l ∙ e) (λ l. altered_past k l ∙ sym (get_or_past cs k 0xFF l)) (cases_lt k (length cs))

  altered_bytes : ((i x : ℕ) → x < 256 → f i x < 256) → ((i : ℕ) → cell_at cs i < 256) → (i : ℕ) → cell_at (altered f 0 cs) i < 256
  altered_bytes keeps h i = ⊎_elim (λ l. rw (altered_cell i l) (keeps i (cell_at cs i) (h i))) (λ l. rw (altered_past i l) (omega arith)) (cases_lt i (length cs))

-- the cells of a span, as far as there are any, written anew
module _ (f : ℕ → ℕ → ℕ) (base n : ℕ) (cs ys : List ℕ) (start stop : ℕ) (starts : start ≡ min base (length cs)) (stops : stop ≡ min (base + n) (length cs)) where
  pub altered_span : ((i x : ℕ) → among base n i ≡ false → f i x ≡ x) → length ys ≡ stop - start
      → ((j : ℕ) → j < length ys → get_or ys j 0 ≡ f (base + j) (get_or cs (base + j) 0)) → put_mid start (stop - start) cs ys ≡ altered f 0 cs
  altered_span beside long each =
      ext_get_or 0 (put_mid start (stop - start) cs ys) (altered f 0 cs) (same_len ∙ sym (altered_length f cs 0))
      (λ k h. at k (omega (arith, same_len)) ∙ sym (altered_at f cs 0 k 0 (omega (arith, same_len)) ∙ ap (λ i. f i (get_or cs k 0)) (omega arith)))
    where
      front : length (take start cs) ≡ start
      front = length-take-le start cs (omega arith)

      same_len : length (put_mid start (stop - start) cs ys) ≡ length cs
      same_len = same_len_mid start (stop - start) cs ys (long ∙ sym (mid_len start stop cs (omega arith)))

      at : (k : ℕ) → k < length cs → get_or (put_mid start (stop - start) cs ys) k 0 ≡ f k (get_or cs k 0)
      at k l = grind (arith, nat_tests, front, get_or_append_left, get_or-append_right, get_or-take, get_or-drop, beside, each)

one_of : (t : Bool) (x y : ℕ) → x < 256 → y < 256 → cond t x y < 256
one_of true x y h k = h
one_of false x y h k = k

module _ (base n : ℕ) (cs : List ℕ) where
  pub blanked_cell : (i : ℕ) → among base n i ≡ true → cell_at (altered (blanked base n) 0 cs) i ≡ 0xFF
  blanked_cell i e = ⊎_elim (λ l. altered_cell (blanked base n) cs i l ∙ rw e refl) (altered_past (blanked base n) cs i) (cases_lt i (length cs))

  pub blanked_else : (i : ℕ) → among base n i ≡ false → cell_at (altered (blanked base n) 0 cs) i ≡ cell_at cs i
  blanked_else i e = altered_else (blanked base n) cs i (rw e refl)

  pub blanked_bytes : ((i : ℕ) → cell_at cs i < 256) → (i : ℕ) → cell_at (altered (blanked base n) 0 cs) i < 256
  blanked_bytes = altered_bytes (blanked base n) cs (λ i x h. one_of (among base n i) 0xFF x (omega arith) h)

  module _ (page : List ℕ) where
    pub anded_cell : (j : ℕ) → j < n → base + j < length cs → cell_at (altered (anded base n page) 0 cs) (base + j) ≡ bit_and (cell_at cs (base + j)) (get_or page j 0)
    anded_cell j h l =
        let z : base + j - base ≡ j = omega arith in
        altered_cell (anded base n page) cs (base + j) l ∙ rw (among_at base n j h, z) refl

    pub anded_else : (i : ℕ) → among base n i ≡ false → cell_at (altered (anded base n page) 0 cs) i ≡ cell_at cs i
    anded_else i e = altered_else (anded base n page) cs i (rw e refl)

    pub anded_bytes : ((i : ℕ) → cell_at cs i < 256) → (i : ℕ) → cell_at (altered (anded base n page) 0 cs) i < 256
    anded_bytes =
        altered_bytes (anded base n page) cs
        (λ i x h. one_of (among base n i) (bit_and x (get_or page (i - base) 0)) x (omega (arith, and_le_l x (get_or page (i - base) 0))) h)

-- two ways to alter that agree on what the cells hold
pub altered_alike : (f g : ℕ → ℕ → ℕ) (cs : List ℕ) (i : ℕ) → ((k : ℕ) → k < length cs → f (i + k) (cell_at cs k) ≡ g (i + k) (cell_at cs k))
    → altered f i cs ≡ altered g i cs
altered_alike f g [] i h = refl
altered_alike f g (x ∷ xs) i h =
    let z : i + 0 ≡ i = omega arith in
    ap (λ y. y ∷ altered f (i + 1) xs) (rw z at (h 0 (omega arith)))
    ∙ ap (λ l. g i x ∷ l) (altered_alike f g xs (i + 1) (λ k l. let y : i + suc k ≡ i + 1 + k = omega arith in rw y at (h (suc k) (omega arith))))

-- the page that a row holds, cell by cell
pub row_cell : (base : ℕ) (cs : List ℕ) (k : ℕ) (d : ℕ) → k < 2112 → get_or (take 2112 (drop base cs ++ blank_page)) k d ≡ cell_at cs (base + k)
row_cell base cs k d h =
    get_or-take 2112 (drop base cs ++ blank_page) k d h
    ∙ ⊎_elim
    (λ l. get_or_append_left (drop base cs) blank_page d k l ∙ (get_or-drop base cs k d ∙ get_or_default cs (base + k) d 0xFF (omega (arith, length-drop base cs))))
    (λ l. get_or-append_right (drop base cs) blank_page (length (drop base cs)) k d refl l
    ∙ (get_or-replicate 2112 (k - length (drop base cs)) 0xFF d (omega arith) ∙ sym (get_or_past cs (base + k) 0xFF (omega (arith, length-drop base cs)))))
    (cases_lt k (length (drop base cs)))

pub row_length : (base : ℕ) (cs : List ℕ) → length (take 2112 (drop base cs ++ blank_page)) ≡ 2112
row_length base cs = length-take-le 2112 (drop base cs ++ blank_page) (simp (length-append, length-replicate) (omega arith))
