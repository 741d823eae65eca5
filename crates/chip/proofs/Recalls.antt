-- One cycle, and then any cycles: what waits in the buffer, and the cells that are recalled.
use Rattle.std.proofs.Common.{◌≡◌, ℕ, ◌+◌, ◌*◌, ◌<◌, ◌≤◌, Bool, true, false, cond, ◌||◌, List, [], ◌∷◌, ◌++◌, map, length, set, is_some, Some, None, Option, sym, refl, ap, ◌∙◌, subst, ⊎_elim, arith}
use mathlib.Core.List.{foldl, foldl-append}
use Rattle.std.proofs.lemmas.List.{length-set, length-replicate}
use Rattle.std.proofs.lemmas.Bool.{both_ways, cases_Bool, lt-ltb}
use Rattle.flash.specs.Addresses.{block_of, next_column}
use Rattle.flash.specs.Statuses.{ready}
use Rattle.flash.specs.declared.address.Column.{Column}
use Rattle.flash.specs.declared.address.Row.{Row}
use Rattle.flash.specs.declared.cycle.Cycle.{Cycle}
use Rattle.bus.specs.Acts.{act_of}
use Rattle.bus.specs.Breaches.{named}
use Rattle.bus.specs.Bus.{step, moved, ended, counted, breaches_of}
use Rattle.bus.specs.States.{copy_up}
use Rattle.bus.specs.declared.act.Act.{Act}
use Rattle.bus.specs.declared.act.Act.TheVariants as act
use Rattle.bus.specs.declared.act.Confirm.{Confirm}
use Rattle.bus.specs.declared.act.Confirm.TheVariants as confirm
use Rattle.bus.specs.declared.breach.Breach.{Breach}
use Rattle.bus.specs.declared.state.BusState.{BusState}
use Rattle.bus.specs.declared.state.Work.{Work}
use Rattle.bus.specs.declared.state.Work.TheVariants as work
use Rattle.bus.specs.declared.state.Phase.{Phase}
use Rattle.bus.specs.declared.state.Phase.TheVariants as phase
use Rattle.bus.specs.declared.state.PageRead.{PageRead}
use Rattle.bus.specs.declared.state.Setup.{Setup}
use Rattle.bus.specs.declared.state.Setup.TheVariants as setup
use Rattle.events.specs.Events.{Thing, broke, Telling, place, happened, later, hand_after, tells as told, follow, follows, events}
use Rattle.chip.specs.Cells.{cell_at, cell_of, block_erased, blank_page, row_programmed, row_held}
use Rattle.chip.specs.Chips.{Chip, chip_step, chip_steps, begins_program, cells_after, page_by, page_after, copied_page, first_chip}
use Rattle.chip.specs.Kept.{copies}
use Rattle.chip.specs.Recalls.{Recall, recall, row_at, span_programmed, Stands, does}
use Rattle.chip.specs.Remembers.{is_copy, telling, recalling}
use Rattle.chip.specs.Waits.{address_for, loads, given, Laid, Waits}
use Rattle.chip.proofs.Acts as acts
use Rattle.chip.proofs.Acts.{Prepared, Loaded}
use Rattle.chip.proofs.Alterations.{blanked_bytes, anded_bytes, row_length}
use Rattle.chip.proofs.Layings.{lays, lays_none, spans}

pair_tests : (x y : Bool) → (x || y) ≡ false → y ≡ false
pair_tests true y e = absurd (both_ways true e refl)
pair_tests false y e = e

not_loads : (p : Phase) → given p ≡ false → loads p ≡ false
not_loads p e = pair_tests _ _ e

-- where no address stands given, and no bytes
module _ (u : BusState) (cells page hand : List ℕ) (source : ℕ) (rests : given u.phase ≡ false) (size : length page ≡ 2112) (bytes : (i : ℕ) → cell_at cells i < 256)
    (none : hand ≡ []) (reading : (x : PageRead) → u.busy ≡ Some (work.Read x) → x.copy ≡ true → source ≡ x.row.number) where
  for_none : {P : Type 0} (s : Setup) → address_for u.phase ≡ Some s → P
  for_none s e = absurd (both_ways (given u.phase) rests (ap (λ o. is_some o || loads u.phase) e))

  at_rest : (copy_up u.register ≡ true → page ≡ row_held source cells) → Waits u cells page hand source
  at_rest copied = record {
    size = size;
    cell = bytes;
    blank = for_none setup.Program;
    laid = λ w s n e. absurd (both_ways (given u.phase) rests (ap given e));
    none = λ e. none;
    empty = λ e. absurd (both_ways (given u.phase) rests e);
    reading = reading;
    copied = copied;
    copies = for_none setup.Copy;
  }

  at_rest_empty : u.register ≡ None → Waits u cells page hand source
  at_rest_empty e = at_rest (λ i. absurd (both_ways (copy_up u.register) (ap copy_up e) i))

-- no copy read is busy
not_reading : {source : ℕ} (y : Option Work) → copies y ≡ false → (x : PageRead) → y ≡ Some (work.Read x) → x.copy ≡ true → source ≡ x.row.number
not_reading y q x e t = absurd (both_ways (copies y) q (ap copies e ∙ t))

row_at_lem : (w : Row) (s : Column) → row_at (place w s) ≡ w.number
row_at_lem w s = omega arith

-- the page where an act prepares, by whether it begins a program
abbrev turned : Phase → Option PageRead → List ℕ → Bool → List ℕ
turned p g page t = page_by (cond t (Some blank_page) None) (act.Prepare p g) page

-- the cells after an act, as recalled
abbrev recalled : ℕ → Act → List ℕ → List ℕ → ℕ → Recall
recalled n a hand cells source = foldl recall (record { cells = cells; source = source }) (happened n a hand)

module _ (u : BusState) (c : Cycle) (cells page hand : List ℕ) (source n : ℕ) (h : Waits u cells page hand source) where
  hand_none : (a : Act) → act_of u c ≡ a → loads (moved u a).phase ≡ false → hand_after a hand ≡ []
  hand_none a e = subst (λ a. loads (moved u a).phase ≡ false → hand_after a hand ≡ []) e (acts.hand_none u c hand h.none)

  was_empty : (a : Act) → act_of u c ≡ a → acts.ends a ≡ true → u.register ≡ None
  was_empty a e i = h.empty (acts.ends_given u c (ap acts.ends e ∙ i))

  prepares : (p : Phase) (g : Option PageRead) → Prepared u p g → Waits (moved u (act.Prepare p g)) cells (page_after u (act.Prepare p g) cells page) hand source
  prepares p g q = record {
    size = page_size (begins_program p);
    cell = h.cell;
    blank = λ i. ⊎_elim (λ t. ap (turned p g page) t) (λ t. ap (turned p g page) t ∙ h.blank (q.program i t)) (cases_Bool (begins_program p));
    laid = λ w s n i. absurd (both_ways (loads p) q.after (ap loads i));
    none = λ i. h.none q.before;
    empty = λ i. ⊎_elim (λ t. q.same i t ∙ h.empty t) (q.empty i) (cases_Bool (given u.phase));
    reading = h.reading;
    copied = λ i. ap (turned p g page) (q.still i) ∙ h.copied (q.up i);
    copies = λ i. ap (turned p g page) (not_program p i) ∙ ⊎_elim h.copies h.copied (q.copy i);
  }
    where
      page_size : (t : Bool) → length (turned p g page t) ≡ 2112
      page_size true = length-replicate {A = ℕ} 2112 0xFF
      page_size false = h.size

      not_program : (p : Phase) → address_for p ≡ Some setup.Copy → begins_program p ≡ false
      not_program p i = grind arith

  -- a status byte, which ends what is busy or does not
  module _ (b : ℕ) (q : given u.phase ≡ false) where
    abbrev after : Bool → Option Work → List ℕ
    after t y = page_by (cond t (copied_page y cells) None) (act.Status b) page

    status_ends : (y : Option Work) → copies y ≡ false → (ended u y).phase ≡ u.phase → (ended u y).register ≡ u.register → (ended u y).busy ≡ None → Waits (ended u y) cells page hand source
    status_ends y f p g n =
        at_rest (ended u y) cells page hand source (ap given p ∙ q) h.size h.cell (h.none (not_loads _ q))
        (λ x e. not_reading None refl x (sym n ∙ e)) (λ i. h.copied (ap copy_up (sym g) ∙ i))

    status_read : (x : PageRead) (t : Bool) → x.copy ≡ t → u.busy ≡ Some (work.Read x)
        → Waits (ended u (Some (work.Read x))) cells (page_by (cond t (Some (row_held x.row.number cells)) None) (act.Status b) page) hand source
    status_read x true j i =
        at_rest _ cells (row_held x.row.number cells) hand source q (row_length (2112 * x.row.number) cells) h.cell (h.none (not_loads _ q))
        (not_reading None refl) (λ k. ap (λ r. row_held r cells) (sym (h.reading x i j)))
    status_read x false j i =
        at_rest _ cells page hand source q h.size h.cell (h.none (not_loads _ q)) (not_reading None refl) (λ k. absurd (both_ways x.copy j k))

    status_rests : (t : Bool) (y : Option Work) → u.busy ≡ y → Waits (cond t (ended u y) u) cells (after t y) hand source
    status_rests false y i = h
    status_rests true None i = h
    status_rests true (Some work.Reset) i = status_ends (Some work.Reset) refl refl refl refl
    status_rests true (Some (work.Read x)) i = status_read x x.copy refl i
    status_rests true (Some work.CachePage) i = status_ends (Some work.CachePage) refl refl refl refl
    status_rests true (Some (work.Program n)) i = status_ends (Some (work.Program n)) refl refl refl refl
    status_rests true (Some (work.Erase n)) i = status_ends (Some (work.Erase n)) refl refl refl refl

  -- a byte in
  module _ (w : Row) (s k : Column) (b : ℕ) (e : act_of u c ≡ act.Load w s k b) (q : Loaded u.phase w s k) where
    first_laid : loads u.phase ≡ false → Laid page hand s.number k.number
    first_laid f =
        let z : s.number ≤ 2112 = omega (arith, q.column, ap (λ (x : Column). x.number) (q.start f)) in
        rw (h.blank (q.begins f), h.none f, q.start f) (lays_none s.number z)

    laid_before : Laid page hand s.number k.number
    laid_before = ⊎_elim (λ t. h.laid w s k (q.goes_on t)) first_laid (cases_Bool (loads u.phase))

    next_column_lem : next_column k ≡ record { number = k.number + 1 }
    next_column_lem = ap (λ t. cond t (record { number = k.number + 1 }) k) (lt-ltb k.number 2112 q.column)

    laid_after : (v : Row) (r m : Column) → phase.Loading w s (next_column k) ≡ phase.Loading v r m → Laid (set page k.number b) (hand ++ b ∷ []) r.number m.number
    laid_after v r m i =
        let x : r ≡ s = cc in
        let y : m ≡ record { number = k.number + 1 } = cc next_column_lem in
        rw (x, y) (lays page hand s.number k.number b h.size q.column laid_before)

    takes_byte : Waits (moved u (act.Load w s k b)) cells (set page k.number b) (hand ++ b ∷ []) source
    takes_byte = record {
      size = length-set page k.number b ∙ h.size;
      cell = h.cell;
      blank = λ i. let z : ◌≡◌ {A = ℕ} 0 1 = cc in absurd (omega arith);
      laid = laid_after;
      none = λ i. absurd (both_ways true i refl);
      empty = λ i. was_empty (act.Load w s k b) e refl;
      reading = h.reading;
      copied = λ i. absurd (both_ways (copy_up u.register) (ap copy_up (was_empty (act.Load w s k b) e refl)) i);
      copies = λ i. let z : ◌≡◌ {A = ℕ} 0 1 = cc in absurd (omega arith);
    }

  -- a confirm
  module _ (a : Act) (e : act_of u c ≡ a) (ends : acts.ends a ≡ true) (after : List ℕ) where
    confirms : (source : ℕ) → given (moved u a).phase ≡ false → (moved u a).register ≡ u.register → ((i : ℕ) → cell_at after i < 256)
        → ((x : PageRead) → (moved u a).busy ≡ Some (work.Read x) → x.copy ≡ true → source ≡ x.row.number) → Waits (moved u a) after page (hand_after a hand) source
    confirms source q same bytes reading =
        at_rest_empty (moved u a) after page (hand_after a hand) source q h.size bytes (hand_none a e (not_loads (moved u a).phase q)) reading (same ∙ was_empty a e ends)

  step_waits : (a : Act) → act_of u c ≡ a → Waits (moved u a) (cells_after a page cells) (page_after u a cells page) (hand_after a hand) (recalled n a hand cells source).source
  step_waits act.WhileBusy e = h
  step_waits act.OutOfPlace e = h
  step_waits act.Reset e = at_rest_empty _ cells page [] source refl h.size h.cell refl (not_reading (Some work.Reset) refl) refl
  step_waits (act.Prepare p g) e = prepares p g (acts.prepared u c p g e)
  step_waits (act.Status b) e = status_rests b (acts.outs_given u c (ap acts.outs e)) (ready b) u.busy refl
  step_waits (act.Identify bs) e = at_rest _ cells page hand source refl h.size h.cell (hand_none (act.Identify bs) e refl) h.reading h.copied
  step_waits (act.Read x) e =
      confirms (act.Read x) e refl cells (cond x.copy (row_at (place x.row x.column)) source) refl refl h.cell
      (λ y i t.
      let same : x ≡ y = cc in
      let copy : x.copy ≡ true = ap (λ (z : PageRead). z.copy) same ∙ t in
      rw copy (row_at_lem x.row x.column ∙ ap (λ (z : PageRead). z.row.number) same))
  step_waits (act.Data w s b) e =
      at_rest _ cells page hand source refl h.size h.cell (hand_none (act.Data w s b) e refl) h.reading (λ i. absurd (both_ways false refl i))
  step_waits (act.Erase w) e = confirms (act.Erase w) e refl (block_erased (block_of w) cells) source refl refl (blanked_bytes (135168 * block_of w) 135168 cells h.cell) (not_reading (Some (work.Erase (block_of w))) refl)
  step_waits (act.Load w s k b) e = takes_byte w s k b e (acts.loaded_by_lem u c w s k b e)
  step_waits (act.Program w s confirm.Program) e =
      confirms (act.Program w s confirm.Program) e refl (row_programmed w.number page cells) source refl refl (anded_bytes (2112 * w.number) 2112 cells page h.cell) (not_reading (Some (work.Program (block_of w))) refl)
  step_waits (act.Program w s confirm.Cache) e =
      confirms (act.Program w s confirm.Cache) e refl (row_programmed w.number page cells) source refl refl (anded_bytes (2112 * w.number) 2112 cells page h.cell) (not_reading (Some work.CachePage) refl)
  step_waits (act.Program w s confirm.Copy) e =
      confirms (act.Program w s confirm.Copy) e refl (row_programmed w.number page cells) source refl refl (anded_bytes (2112 * w.number) 2112 cells page h.cell) (not_reading (Some (work.Program (block_of w))) refl)

  -- a program of the bytes in hand
  program_span : (w : Row) (s : Column) (f : Confirm) → is_copy f ≡ false → act_of u c ≡ act.Program w s f
      → row_programmed w.number page cells ≡ span_programmed (cell_of (row_at (place w s)) s.number) hand cells
  program_span w s f i e =
      spans page hand cells w.number s.number _ h.cell (h.laid w s _ (acts.program_given u c w s f i e))
      ∙ ap (λ r. span_programmed (cell_of r s.number) hand cells) (sym (row_at_lem w s))

  step_cells : (a : Act) → act_of u c ≡ a → cells_after a page cells ≡ (recalled n a hand cells source).cells
  step_cells act.WhileBusy e = refl
  step_cells act.OutOfPlace e = refl
  step_cells act.Reset e = refl
  step_cells (act.Prepare p g) e = refl
  step_cells (act.Status b) e = refl
  step_cells (act.Identify bs) e = refl
  step_cells (act.Read x) e = refl
  step_cells (act.Data w s b) e = refl
  step_cells (act.Erase w) e = refl
  step_cells (act.Load w s k b) e = refl
  step_cells (act.Program w s confirm.Program) e = program_span w s confirm.Program refl e
  step_cells (act.Program w s confirm.Cache) e = program_span w s confirm.Cache refl e
  step_cells (act.Program w s confirm.Copy) e =
      ap (λ x. row_programmed w.number x cells) (h.copies (acts.copy_given u c w s e))
      ∙ ap (λ r. row_programmed r (row_held source cells) cells) (sym (row_at_lem w s))

-- a rule that is broken changes nothing that is recalled
broke_none : (n : ℕ) (r : Recall) (bs : List Breach) (xs : List Thing) → foldl recall r (map (broke n) bs ++ xs) ≡ foldl recall r xs
broke_none n r [] xs = refl
broke_none n r (b ∷ bs) xs = broke_none n r bs xs

counted_waits : (u : BusState) (n : ℕ) (cells page hand : List ℕ) (source : ℕ) → Waits u cells page hand source → Waits (counted u n) cells page hand source
counted_waits u n cells page hand source h = record {
  size = h.size;
  cell = h.cell;
  blank = h.blank;
  laid = h.laid;
  none = h.none;
  empty = h.empty;
  reading = h.reading;
  copied = h.copied;
  copies = h.copies;
}

pub told_done : (t : Telling) (c : Cycle) (r : Recall) → foldl recall r (told t c) ≡ foldl recall r (does t c)
unfolding told
told_done t c r = broke_none (later t.cycles) r (named (breaches_of t.reader (act_of t.reader.bus c))) (does t c)

module _ (statuses : List ℕ) where
  stands_at : (k : Chip) (hand : List ℕ) (n source : ℕ) (c : Cycle) → Waits k.reader.bus k.memory.cells k.memory.page hand source
      → let t : Telling = record { reader = k.reader; hand = hand; cycles = n } in
      Stands (chip_step statuses k c) (follow t c) (foldl recall (record { cells = k.memory.cells; source = source }) (told t c))
  unfolding chip_step step follow told
  stands_at k hand n source c h =
      let u : BusState = k.reader.bus in
      let r : Recall = record { cells = k.memory.cells; source = source } in
      let same = broke_none (later n) r (named (breaches_of k.reader (act_of u c))) (happened (later n) (act_of u c) hand) in
      record {
        reader = refl;
        cells = ap (λ (x : Recall). x.cells) same ∙ sym (step_cells u c k.memory.cells k.memory.page hand source (later n) h (act_of u c) refl);
        waits = rw same (counted_waits _ _ _ _ _ _ (step_waits u c k.memory.cells k.memory.page hand source (later n) h (act_of u c) refl));
      }

  module _ {k : Chip} {t : Telling} {r : Recall} (h : Stands k t r) where
    same_telling : record { reader = k.reader; hand = t.hand; cycles = t.cycles } ≡ t
    same_telling = ap (λ x. record { reader = x; hand = t.hand; cycles = t.cycles }) (sym h.reader)

    same_recall : record { cells = k.memory.cells; source = r.source } ≡ r
    same_recall = ap (λ x. record { cells = x; source = r.source }) (sym h.cells)

    -- one cycle more
    pub stands_step : (c : Cycle) → Stands (chip_step statuses k c) (follow t c) (foldl recall r (told t c))
    stands_step c =
        subst (λ (x : Recall). Stands (chip_step statuses k c) (follow t c) (foldl recall x (told t c))) same_recall
        (subst (λ (x : Telling). Stands (chip_step statuses k c) (follow x c) (foldl recall (record { cells = k.memory.cells; source = r.source }) (told x c))) same_telling
        (stands_at k t.hand t.cycles r.source c h.waits))

  -- any cycles
  pub stands_on : (cs : List Cycle) {k : Chip} {t : Telling} {r : Recall} → Stands k t r → Stands (chip_steps statuses k cs) (follows t cs) (foldl recall r (events t cs))
  stands_on [] h = h
  stands_on (c ∷ cs) {k} {t} {r} h =
      subst (λ (x : Recall). Stands (chip_steps statuses (chip_step statuses k c) cs) (follows (follow t c) cs) x)
      (sym (foldl-append recall r (told t c) (events (follow t c) cs))) (stands_on cs (stands_step h c))

-- a new chip
pub first_stands : (n : ℕ) (cells : List ℕ) → ((i : ℕ) → cell_at cells i < 256) → Stands (first_chip n cells) (telling (first_chip n cells)) (recalling (first_chip n cells))
first_stands n cells h = record {
  reader = refl;
  cells = refl;
  waits = at_rest_empty _ cells blank_page [] 0 refl (length-replicate {A = ℕ} 2112 0xFF) h refl (not_reading None refl) refl;
}
