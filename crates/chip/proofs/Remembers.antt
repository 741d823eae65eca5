-- A chip remembers what was programmed, copied and erased.
use Rattle.std.proofs.Common.{◌≡◌, ℕ, ◌+◌, ◌*◌, ◌<◌, Bool, true, false, not, List, [], ◌∷◌, length, get_or, sym, refl, ap, ◌∙◌, subst, arith}
use mathlib.Core.List.{foldl, foldl-append}
use lib.Bits.{bit_and}
use Rattle.std.proofs.lemmas.List.{get_or_past}
use Rattle.std.proofs.lemmas.Bool.{both_ways, and_parts}
use Rattle.flash.specs.Addresses.{block_of}
use Rattle.flash.specs.declared.cycle.Cycle.{Cycle}
use Rattle.bus.specs.Acts.{act_of}
use Rattle.bus.specs.Bus.{Reader}
use Rattle.bus.specs.declared.act.Act.{Act}
use Rattle.bus.specs.declared.act.Act.TheVariants as act
use Rattle.bus.specs.declared.act.Confirm.{Confirm}
use Rattle.bus.specs.declared.act.Confirm.TheVariants as confirm
use Rattle.events.specs.Events.{Thing, erase, program, Place, Telling, place, happened, later, tells as told, follow, events}
use Rattle.chip.specs.Cells.{cell_at, cell_of, read_at, altered, anded, row_held}
use Rattle.chip.specs.Chips.{Chip, first_chip}
use Rattle.chip.specs.Kept.{works}
use Rattle.chip.specs.Recalls.{Recall, recall, row_at, span_programmed, Stands, does, touches, untouched}
use Rattle.chip.specs.Remembers.{is_copy, changes, held_after, Remembers, EverRemembers}
use Rattle.chip.proofs.Alterations.{altered_length, blanked_cell, blanked_else, anded_cell, anded_else, row_cell}
use Rattle.chip.proofs.Keeps.{kept}
use Rattle.chip.proofs.Recalls.{told_done, stands_on, first_stands}

-- a thing that touches a cell, and things that do not
not_false : (t : Bool) → not t ≡ true → t ≡ false
not_false true e = absurd (both_ways false refl e)
not_false false e = refl

leaves : (r : Recall) (x : Thing) (i : ℕ) → touches x i ≡ false → cell_at (recall r x).cells i ≡ cell_at r.cells i
leaves r x i e = grind (arith, blanked_else, anded_else)

leave : (xs : List Thing) (r : Recall) (i : ℕ) → untouched i xs ≡ true → cell_at (foldl recall r xs).cells i ≡ cell_at r.cells i
leave [] r i e = refl
leave (x ∷ xs) r i e =
    let both = and_parts (not (touches x i)) (untouched i xs) e in
    leave xs (recall r x) i both.1 ∙ leaves r x i (not_false (touches x i) both.0)

-- as many cells as before
same_length : (r : Recall) (x : Thing) → length (recall r x).cells ≡ length r.cells
same_length r x = grind (arith, altered_length)

same_lengths : (xs : List Thing) (r : Recall) → length (foldl recall r xs).cells ≡ length r.cells
same_lengths [] r = refl
same_lengths (x ∷ xs) r = same_lengths xs (recall r x) ∙ same_length r x

-- an act that works on cells tells so
work_told : (n : ℕ) (a : Act) (hand : List ℕ) → works a ≡ true → (x : Thing) × (happened n a hand ≡ x ∷ []) × (changes x ≡ true)
work_told n act.WhileBusy hand e = absurd (both_ways false refl e)
work_told n act.OutOfPlace hand e = absurd (both_ways false refl e)
work_told n act.Reset hand e = absurd (both_ways false refl e)
work_told n (act.Prepare p g) hand e = absurd (both_ways false refl e)
work_told n (act.Status b) hand e = absurd (both_ways false refl e)
work_told n (act.Identify bs) hand e = absurd (both_ways false refl e)
work_told n (act.Read x) hand e = absurd (both_ways false refl e)
work_told n (act.Data w c b) hand e = absurd (both_ways false refl e)
work_told n (act.Erase w) hand e = (erase (block_of w), refl, refl)
work_told n (act.Load w s c b) hand e = absurd (both_ways false refl e)
work_told n (act.Program w c f) hand e = (program f (place w c) hand, refl, refl)

module _ (statuses : List ℕ) {k : Chip} {t : Telling} {r : Recall} (h : Stands k t r) where
  recalls : (cs : List Cycle) → held_after statuses k cs ≡ (foldl recall r (events t cs)).cells
  recalls cs = sym (stands_on statuses cs h).cells

  -- a cycle that does one thing, and cycles that leave the cell alone
  thing_done : (c : Cycle) (ds : List Cycle) (x : Thing) (i : ℕ) → does t c ≡ x ∷ [] → untouched i (events (follow t c) ds) ≡ true
      → cell_at (held_after statuses k (c ∷ ds)) i ≡ cell_at (recall r x).cells i
  thing_done c ds x i e u =
      ap (λ cs. cell_at cs i) (recalls (c ∷ ds) ∙ ap (λ (y : Recall). y.cells) (foldl-append recall r (told t c) (events (follow t c) ds)))
      ∙ (leave (events (follow t c) ds) (foldl recall r (told t c)) i u
      ∙ ap (λ (y : Recall). cell_at y.cells i) (told_done t c r ∙ ap (foldl recall r) e))

  -- a cell of n from base on, ANDed with the byte in its place
  anded_at : (base n : ℕ) (bs : List ℕ) (j : ℕ) → j < n → base + j < length k.memory.cells
      → cell_at (altered (anded base n bs) 0 r.cells) (base + j) ≡ bit_and (cell_at k.memory.cells (base + j)) (get_or bs j 0)
  anded_at base n bs j m l = ap (λ cs. cell_at (altered (anded base n bs) 0 cs) (base + j)) h.cells ∙ anded_cell base n k.memory.cells bs j m l

  span_of : (p : Place) (bs : List ℕ) (j : ℕ) → j < length bs → cell_of (row_at p) (p.column + j) < length k.memory.cells
      → read_at (span_programmed (cell_of (row_at p) p.column) bs r.cells) (row_at p) (p.column + j) ≡ bit_and (read_at k.memory.cells (row_at p) (p.column + j)) (get_or bs j 0)
  span_of p bs j m l =
      let z : cell_of (row_at p) (p.column + j) ≡ cell_of (row_at p) p.column + j = omega arith in
      rw z (anded_at (cell_of (row_at p) p.column) (length bs) bs j m (rw z at l))

  span_cell : (f : Confirm) (p : Place) (bs : List ℕ) (j : ℕ) → is_copy f ≡ false → j < length bs → cell_of (row_at p) (p.column + j) < length k.memory.cells
      → cell_at (recall r (program f p bs)).cells (cell_of (row_at p) (p.column + j)) ≡ bit_and (read_at k.memory.cells (row_at p) (p.column + j)) (get_or bs j 0)
  span_cell confirm.Program p bs j e m l = span_of p bs j m l
  span_cell confirm.Cache p bs j e m l = span_of p bs j m l
  span_cell confirm.Copy p bs j e m l = absurd (both_ways true e refl)

  copy_cell : (p : Place) (bs : List ℕ) (j : ℕ) → j < 2112 → cell_of (row_at p) j < length k.memory.cells
      → cell_at (recall r (program confirm.Copy p bs)).cells (cell_of (row_at p) j) ≡ bit_and (read_at k.memory.cells (row_at p) j) (read_at k.memory.cells r.source j)
  copy_cell p bs j m l =
      anded_at (2112 * row_at p) 2112 (row_held r.source r.cells) j m l
      ∙ ap (bit_and (read_at k.memory.cells (row_at p) j)) (row_cell (2112 * r.source) r.cells j 0 m ∙ ap (λ cs. read_at cs r.source j) h.cells)

  remembers : Remembers statuses k t r
  remembers = record {
    stands = h;
    recalls = recalls;
    beyond = λ cs i l. ap (λ xs. cell_at xs i) (recalls cs)
        ∙ get_or_past (foldl recall r (events t cs)).cells i 0xFF (omega (arith, same_lengths (events t cs) r, ap length h.cells));
    taken = λ c i b o. work_told (later t.cycles) (act_of t.reader.bus c) t.hand
        (subst (λ (x : Reader). works (act_of x.bus c) ≡ true) (sym h.reader) ((kept statuses k c).taken i b o));
    others = λ cs i u. ap (λ xs. cell_at xs i) (recalls cs) ∙ (leave (events t cs) r i u ∙ ap (λ xs. cell_at xs i) h.cells);
    programs = λ c ds f p bs j e w m l u. thing_done c ds (program f p bs) _ e u ∙ span_cell f p bs j w m l;
    copies = λ c ds p bs j e m l u. thing_done c ds (program confirm.Copy p bs) _ e u ∙ copy_cell p bs j m l;
    erases = λ c ds b i e m u. thing_done c ds (erase b) i e u ∙ blanked_cell (135168 * b) 135168 r.cells i m;
  }

pub ever_remembers : (statuses : List ℕ) (n : ℕ) (cells : List ℕ) → ((i : ℕ) → cell_at cells i < 256) → EverRemembers statuses (first_chip n cells)
ever_remembers statuses n cells h cs = remembers statuses (stands_on statuses cs (first_stands n cells h))
