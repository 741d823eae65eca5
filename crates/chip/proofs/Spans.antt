-- What is programmed is what is there afterwards: bytes loaded one after the other, and their confirm.
use Rattle.std.proofs.Common.{◌≡◌, ℕ, zero, suc, ◌+◌, ◌-◌, ◌*◌, ◌<◌, ◌≤◌, true, false, ◌||◌, eqb, List, [], ◌∷◌, map, length, get_or, None, refl, ap, ◌∙◌, ⊎_elim, arith}
use mathlib.Core.List.{foldl-append}
use lib.Bits.{bit_and}
use Rattle.std.proofs.lemmas.List.{get_or-set_same, get_or-set_other, get_or-replicate, length-set, length-replicate}
use Rattle.std.proofs.lemmas.Bool.{eqb-true, lt-ltb, or_cases}
use Rattle.std.proofs.lemmas.Bool.Decides.{nat_tests}
use Rattle.flash.specs.Addresses.{in_page}
use Rattle.flash.specs.declared.address.Column.{Column}
use Rattle.flash.specs.declared.address.Row.{Row}
use Rattle.flash.specs.declared.cycle.Cycle.{Cycle}
use Rattle.flash.specs.declared.cycle.Kind.TheVariants.{Command, DataIn}
use Rattle.bus.specs.Acts.{act_of, data_in, loading}
use Rattle.bus.specs.Bus.{step}
use Rattle.bus.specs.declared.act.Act.TheVariants as act
use Rattle.bus.specs.declared.act.Confirm.{Confirm}
use Rattle.bus.specs.declared.act.Confirm.TheVariants as confirm
use Rattle.bus.specs.declared.state.BusState.{BusState}
use Rattle.bus.specs.declared.state.Phase.TheVariants as phase
use Rattle.bus.specs.declared.state.Setup.TheVariants as setup
use Rattle.chip.specs.Cells.{cell_at, cell_of, read_at, among, anded, blank_page, row_programmed}
use Rattle.chip.specs.Chips.{Chip, chip_step, chip_steps}
use Rattle.chip.specs.Kept.{ProgramsKept, CopiesKept, HeldAfter}
use Rattle.chip.proofs.Alterations.{altered_else}
use Rattle.chip.proofs.Keeps.{kept}
use Rattle.chip.proofs.Layings.{and_blank}

abbrev byte : ℕ → Cycle
byte b = record { kind = DataIn; byte = b }

abbrev column : ℕ → Column
column n = record { number = n }

-- bytes that wait for their confirm: the chip k was given them from column n on, and is then l
record Waiting (k l : Chip) (w : Row) (s : Column) (n : ℕ) (bs : List ℕ) : Type 0 where
  stands : l.reader.bus.phase ≡ phase.Loading w s (column (n + length bs))
  idle : l.reader.bus.busy ≡ k.reader.bus.busy
  cells : l.memory.cells ≡ k.memory.cells
  size : length l.memory.page ≡ length k.memory.page
  inside : (j : ℕ) → j < length bs → get_or l.memory.page (n + j) 0 ≡ get_or bs j 0
  outside : (i : ℕ) → among n (length bs) i ≡ false → get_or l.memory.page i 0 ≡ get_or k.memory.page i 0

-- a byte goes to its column, if the page has it
takes_byte : (statuses : List ℕ) (k : Chip) (w : Row) (s : Column) (n b : ℕ) → n < 2112 → n < length k.memory.page
    → act_of k.reader.bus (byte b) ≡ loading w s (column n) b → Waiting k (chip_step statuses k (byte b)) w s n (b ∷ [])
unfolding chip_step step
takes_byte statuses k w s n b h l e = record {
  stands = rw (a, t) refl;
  idle = rw a refl;
  cells = rw a refl;
  size = rw a (length-set k.memory.page n b);
  inside = λ j m. rw a (let z : j ≡ 0 = omega arith in rw z (grind (arith, get_or-set_same)));
  outside = λ i m. rw a (grind (arith, nat_tests, get_or-set_other));
}
  where
    t : in_page (column n) ≡ true
    t = lt-ltb n 2112 h

    a : act_of k.reader.bus (byte b) ≡ act.Load w s (column n) b
    a = e ∙ rw t refl

-- bytes after bytes
joined : (k l m : Chip) (w : Row) (s : Column) (n b : ℕ) (bs : List ℕ)
    → Waiting k l w s n (b ∷ []) → Waiting l m w s (n + 1) bs → Waiting k m w s n (b ∷ bs)
joined k l m w s n b bs p q = record {
  stands = q.stands ∙ ap (λ i. phase.Loading w s (column i)) (omega arith);
  idle = q.idle ∙ p.idle;
  cells = q.cells ∙ p.cells;
  size = q.size ∙ p.size;
  inside = joined_inside;
  outside = λ i h. grind (arith, nat_tests, p.outside, q.outside);
}
  where
    joined_inside : (j : ℕ) → j < suc (length bs) → get_or m.memory.page (n + j) 0 ≡ get_or (b ∷ bs) j 0
    joined_inside zero h = grind (arith, nat_tests, p.inside, q.outside)
    joined_inside (suc j) h = ap (λ i. get_or m.memory.page i 0) (omega arith) ∙ q.inside j (omega arith)

takes_bytes : (statuses : List ℕ) (k : Chip) (w : Row) (s : Column) (n b : ℕ) (bs : List ℕ) → n + length (b ∷ bs) ≤ 2112 → length k.memory.page ≡ 2112
    → act_of k.reader.bus (byte b) ≡ loading w s (column n) b → Waiting k (chip_steps statuses k (map byte (b ∷ bs))) w s n (b ∷ bs)
takes_bytes statuses k w s n b [] h l e = takes_byte statuses k w s n b (omega arith) (omega arith) e
takes_bytes statuses k w s n b (c ∷ cs) h l e =
    let p = takes_byte statuses k w s n b (omega arith) (omega arith) e in
    joined k (chip_step statuses k (byte b)) (chip_steps statuses k (map byte (b ∷ c ∷ cs))) w s n b (c ∷ cs) p
    (takes_bytes statuses (chip_step statuses k (byte b)) w s (n + 1) c cs (omega arith) (p.size ∙ l) (ap (λ q. data_in q c) p.stands))

takes_all : (statuses : List ℕ) (k : Chip) (w : Row) (s : Column) (bs : List ℕ) → 0 < length bs → s.number + length bs ≤ 2112 → length k.memory.page ≡ 2112
    → k.reader.bus.phase ≡ phase.Addressed setup.Program s w → Waiting k (chip_steps statuses k (map byte bs)) w s s.number bs
takes_all statuses k w s [] z h l e = absurd (omega arith)
takes_all statuses k w s (b ∷ bs) z h l e = takes_bytes statuses k w s s.number b bs h l (ap (λ q. data_in q b) e)

-- 10h or 15h after them
confirms_program : (u : BusState) (c : Cycle) (w : Row) (s n : Column) → c.kind ≡ Command → (eqb c.byte 0x10 || eqb c.byte 0x15) ≡ true
    → u.phase ≡ phase.Loading w s n → u.busy ≡ None → (f : Confirm) × (act_of u c ≡ act.Program w s f)
confirms_program u c w s n k t p i =
    ⊎_elim
    (λ h. let b : c.byte ≡ 0x10 = eqb-true c.byte 0x10 h in (confirm.Program, rw (k, b, i, p) refl))
    (λ h. let b : c.byte ≡ 0x15 = eqb-true c.byte 0x15 h in (confirm.Cache, rw (k, b, i, p) refl))
    (or_cases (eqb c.byte 0x10) (eqb c.byte 0x15) t)

-- a cell beside the row, or one for which FFh waits
program_keeps : (cells page : List ℕ) (row i : ℕ) → cell_at cells i < 256 → (among (2112 * row) 2112 i ≡ true → get_or page (i - 2112 * row) 0 ≡ 0xFF)
    → cell_at (row_programmed row page cells) i ≡ cell_at cells i
program_keeps cells page row i h e =
    altered_else (anded (2112 * row) 2112 page) cells i (grind (arith, nat_tests, and_blank))

programs_row : (statuses : List ℕ) (k : Chip) (c : Cycle) (w : Row) (s : Column) (f : Confirm) → act_of k.reader.bus c ≡ act.Program w s f
    → (chip_step statuses k c).memory.cells ≡ row_programmed w.number k.memory.page k.memory.cells
unfolding chip_step
programs_row statuses k c w s f e = rw e refl

-- a column of the row beside the span
beside : (base n m i : ℕ) → among (base + n) m i ≡ false → among base 2112 i ≡ true → among n m (i - base) ≡ false
beside base n m i h t = grind (arith, nat_tests)

in_row : (base i : ℕ) → among base 2112 i ≡ true → i - base < 2112
in_row base i t = grind (arith, nat_tests)

holds_after : (statuses : List ℕ) (k l : Chip) (c : Cycle) (w : Row) (s : Column) (f : Confirm) (bs : List ℕ)
    → k.memory.page ≡ blank_page → s.number + length bs ≤ 2112 → Waiting k l w s s.number bs → act_of l.reader.bus c ≡ act.Program w s f
    → HeldAfter k.memory.cells (chip_step statuses l c).memory.cells w.number s.number bs
holds_after statuses k l c w s f bs blank fits p e = rw (← p.cells) (record {
  here = λ j h m. ((kept statuses l c).programs w s f e).here (s.number + j) (omega arith) m ∙ ap (bit_and (cell_at l.memory.cells (cell_of w.number (s.number + j)))) (p.inside j h);
  elsewhere = λ i n h. ap (λ cs. cell_at cs i) (programs_row statuses l c w s f e)
      ∙ program_keeps l.memory.cells l.memory.page w.number i h (still_blank i n);
})
  where
    still_blank : (i : ℕ) → among (cell_of w.number s.number) (length bs) i ≡ false → among (2112 * w.number) 2112 i ≡ true
        → get_or l.memory.page (i - 2112 * w.number) 0 ≡ 0xFF
    still_blank i n t =
        p.outside (i - 2112 * w.number) (beside (2112 * w.number) s.number (length bs) i n t)
        ∙ ap (λ page. get_or page (i - 2112 * w.number) 0) blank
        ∙ get_or-replicate 2112 (i - 2112 * w.number) 0xFF 0 (in_row (2112 * w.number) i t)

pub programs_kept : ProgramsKept
programs_kept statuses k w s bs c command ends addressed idle blank some fits =
    let l = chip_steps statuses k (map byte bs) in
    let p = takes_all statuses k w s bs some fits (ap length blank ∙ length-replicate {A = ℕ} 2112 0xFF) addressed in
    let e = confirms_program l.reader.bus c w s (column (s.number + length bs)) command ends p.stands (p.idle ∙ idle) in
    rw (foldl-append (chip_step statuses) k (map byte bs) (c ∷ [])) (holds_after statuses k l c w s e.0 bs blank fits p e.1)

-- the 10h of a copy programs the row that was given
confirms_copy : (u : BusState) (c : Cycle) (w : Row) (s : Column) → c.kind ≡ Command → c.byte ≡ 0x10 → u.phase ≡ phase.Addressed setup.Copy s w → u.busy ≡ None
    → act_of u c ≡ act.Program w s confirm.Copy
confirms_copy u c w s k b p i = rw (k, b, i, p) refl

pub copies_kept : CopiesKept
copies_kept statuses k w s source c kind byte phase idle page j h l =
    ((kept statuses k c).programs w s confirm.Copy (confirms_copy k.reader.bus c w s kind byte phase idle)).here j h l
    ∙ ap (λ b. bit_and (read_at k.memory.cells w.number j) b) (page j h)
