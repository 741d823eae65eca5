-- A call is turned away at the record exactly when the reader would count a breach.
use Rattle.std.proofs.Common.{◌≡◌, ℕ, ◌+◌, ◌*◌, ◌/◌, ◌%◌, ◌≤◌, leb, min, Bool, true, false, cond, not, ◌&&◌, ltb, ◌⊎◌, List, [], ◌∷◌, length, get_or, Some, None, Option, sym, refl, ap, ◌∙◌, subst, inl, inr, ⊎_elim, arith}
use Rattle.std.proofs.lemmas.Bool.Decides.{nat_tests}
use Rattle.flash.specs.Addresses.{row_at}
use Rattle.flash.specs.Faults.{number_of}
use Rattle.flash.specs.Records.{first_record, fit, out_of_order, programmed_out}
use Rattle.flash.specs.declared.address.Column.{Column}
use Rattle.flash.specs.declared.fault.Fault.{Fault}
use Rattle.flash.specs.declared.fault.Fault.TheVariants as fault
use Rattle.flash.specs.declared.page.Page.{Page}
use Rattle.flash.specs.declared.part.Part.{Part}
use Rattle.flash.specs.declared.record.BlockRecord.{BlockRecord}
use Rattle.flash.specs.declared.record.Pages.{Pages}
use Rattle.bus.specs.Bus.{Reader, steps}
use Rattle.bus.specs.States.{allowed_in, closed}
use Rattle.bus.specs.declared.act.Confirm.{Confirm}
use Rattle.bus.specs.declared.act.Confirm.TheVariants as confirm
use Rattle.bus.specs.declared.state.Phase.{Phase}
use Rattle.bus.specs.declared.state.Phase.TheVariants as phase
use Rattle.bus.specs.declared.state.Work.{Work}
use Rattle.bus.specs.declared.state.PageRead.{PageRead}
use Rattle.record.specs.Judgements.{or_else, unfit, unready}
use Rattle.calls.specs.Table.{chain_page, most}
use Rattle.calls.specs.Told.{InPart, Fits}
use Rattle.calls.specs.declared.call.Call.{Call}
use Rattle.calls.specs.declared.call.Call.TheVariants as call
use Rattle.driver.specs.Views.{View, block_page}
use Rattle.driver.specs.Refusals.{state_fault, argument_fault, program_fault, record_fault, port_fault, refusal, page_named}
use Rattle.bus.specs.Breaches.{one}
use Rattle.commands.specs.Polls.{polled}
use Rattle.commands.specs.Sequences.{first_column}
use Rattle.calls.specs.Afters.{after_erase, after_program, after}
use Rattle.calls.specs.Table.{block_row, ready_cycles}
use Rattle.calls.proofs.Theorems.{call_leaves}
use Rattle.driver.specs.Laws.{early, at_record, judged, Exact}
use Rattle.driver.specs.Outcomes.{refused, next_by, last_by, copied_by, accepted, outcome_at, outcome}
use Rattle.driver.proofs.Holds.{reader_at, Held, fits, begins}
use Rattle.driver.proofs.Reasons.{of_reason, state_within, argument_within, record_within}
use Rattle.driver.proofs.Keeps.{row_block, row_page, kept, resting, in_chain_by, polled_cache, opened}

-- ## Blame

unfit_blamed : (p : Page) (k : BlockRecord) (f : Fault) → unfit p k ≡ Some f → fit k ≡ false
unfit_blamed p k f e = grind (arith, nat_tests)

unready_blamed : (p : Page) (chain : Bool) (n : ℕ) (ps : Pages) (f : Fault) → unready p chain n ps ≡ Some f → (not (out_of_order ps chain p.page) && not (programmed_out n ps p.page)) ≡ false
unready_blamed p chain n ps f e = grind (arith, nat_tests)

count_of : (a b c : Bool) → (a && (not b && not c)) ≡ false → ltb 0 (min 65535 (0 + (0 + 0 + one (not a) + one b + one c))) ≡ true
count_of true true true e = refl
count_of true true false e = refl
count_of true false true e = refl
count_of true false false e = absurd (grind (arith, e))
count_of false true true e = refl
count_of false true false e = refl
count_of false false true e = refl
count_of false false false e = refl

pub or_some : (x y : Option Fault) (f : Fault) → or_else x y ≡ Some f → (x ≡ Some f) ⊎ (y ≡ Some f)
or_some None y f e = inr e
or_some (Some g) y f e = inl e

and_false : (b : Bool) → (b && false) ≡ false
and_false true = refl
and_false false = refl

program_blamed : (o : Option Part) (ks : List BlockRecord) (p : Page) (chain : Bool) (f : Fault) → program_fault o ks p chain ≡ Some f
    → (fit (get_or ks p.block first_record) && (not (out_of_order (get_or ks p.block first_record).pages chain p.page) && not (programmed_out (allowed_in o) (get_or ks p.block first_record).pages p.page))) ≡ false
program_blamed o ks p chain f e =
    ⊎_elim
    (λ x. ap (λ b. b && (not (out_of_order (get_or ks p.block first_record).pages chain p.page) && not (programmed_out (allowed_in o) (get_or ks p.block first_record).pages p.page))) (unfit_blamed p (get_or ks p.block first_record) f x))
    (λ x. ap (λ b. fit (get_or ks p.block first_record) && b) (unready_blamed p chain (allowed_in o) (get_or ks p.block first_record).pages f x) ∙ and_false (fit (get_or ks p.block first_record)))
    (or_some (unfit p (get_or ks p.block first_record)) (unready p chain (allowed_in o) (get_or ks p.block first_record).pages) f e)

-- the breaches after a confirm that the record would have turned away
module _ (v : View) (h : Phase) (b : Option Work) (g : Option PageRead) (k : Option ℕ) where
  erase_counted : (x : ℕ) (f : Fault) → record_fault v.part v.blocks (call.Erase x) ≡ Some f → ltb 0 (after_erase (block_row x) (reader_at v h b g k)).bus.breaches ≡ true
  erase_counted x f e =
      let q : fit (get_or v.blocks x first_record) ≡ false = unfit_blamed (block_page x) (get_or v.blocks x first_record) f e in
      let y : (64 * x + 0) / 64 ≡ x = omega arith in
      simp (y, q)

  program_counted : (p : Page) (c : Column) (t : Confirm) (f : Fault) → InPart v.part p → program_fault v.part v.blocks p (not (closed k)) ≡ Some f
      → ltb 0 (after_program (row_at p) c t (reader_at v h b g k)).bus.breaches ≡ true
  program_counted p c t f i e =
      let rec = get_or v.blocks p.block first_record in
      let y : (64 * p.block + p.page) / 64 ≡ p.block = row_block v.part p i in
      let z : (64 * p.block + p.page) % 64 ≡ p.page = row_page v.part p i in
      let n = count_of (fit rec) (out_of_order rec.pages (not (closed k)) p.page) (programmed_out (allowed_in v.part) rec.pages p.page) (program_blamed v.part v.blocks p (not (closed k)) f e) in
      by_confirm t y z n
    where
      by_confirm : (t : Confirm) → (64 * p.block + p.page) / 64 ≡ p.block → (64 * p.block + p.page) % 64 ≡ p.page
          → ltb 0 (min 65535 (0 + (0 + 0 + one (not (fit (get_or v.blocks p.block first_record))) + one (out_of_order (get_or v.blocks p.block first_record).pages (not (closed k)) p.page)
          + one (programmed_out (allowed_in v.part) (get_or v.blocks p.block first_record).pages p.page)))) ≡ true
          → ltb 0 (after_program (row_at p) c t (reader_at v h b g k)).bus.breaches ≡ true
      by_confirm confirm.Program y z n = simp (y, z) n
      by_confirm confirm.Cache y z n = simp (y, z) n
      by_confirm confirm.Copy y z n = simp (y, z) n

-- ## Faults by their places

-- a place by the number of the refusal
place_is : (f : Fault) → (early (refused f) ≡ leb (number_of f) 7) × (at_record (refused f) ≡ (leb 8 (number_of f) && leb (number_of f) 12))
place_is fault.Stuck = (refl, refl)
place_is fault.SlipOut = (refl, refl)
place_is fault.WrongSlip = (refl, refl)
place_is fault.Identified = (refl, refl)
place_is (fault.NoSuchBlock b) = (refl, refl)
place_is (fault.NoSuchPage p) = (refl, refl)
place_is (fault.NoSuchSpan p) = (refl, refl)
place_is (fault.MarkUnread p) = (refl, refl)
place_is (fault.UnfitBlock p) = (refl, refl)
place_is (fault.StaleBlock p) = (refl, refl)
place_is (fault.PageOrder p) = (refl, refl)
place_is (fault.TooManyPrograms p) = (refl, refl)
place_is (fault.NoRoom p) = (refl, refl)
place_is (fault.Timeout p) = (refl, refl)
place_is fault.UnknownPart = (refl, refl)
place_is (fault.WorkFailed p) = (refl, refl)
place_is (fault.WorkProtected p) = (refl, refl)

early_by : (f : Fault) → number_of f ≤ 7 → early (refused f) ≡ true
early_by f l = let e : leb (number_of f) 7 ≡ true = grind (arith, l) in (place_is f).0 ∙ e

record_at : (v : View) (c : Call) (f : Fault) → record_fault v.part v.blocks c ≡ Some f → at_record (refused f) ≡ true
record_at v c f e =
    let w = of_reason 8 12 (record_within v.part v.blocks c) e in
    let x : leb 8 (number_of f) ≡ true = grind (arith, w.0) in
    let y : leb (number_of f) 12 ≡ true = grind (arith, w.1) in
    (place_is f).1 ∙ (ap (λ b. b && leb (number_of f) 12) x ∙ y)

-- ## Every call that works on a block

abbrev ready_replies : List ℕ
ready_replies = 0xC0 ∷ []

module _ (v : View) (r : Reader) (k : Held v r) where
  counted : (c : Call) (bs : List ℕ) (f : Fault) → judged c ≡ true → state_fault v.part v.standing c ≡ None → Fits v.part c (length bs) → record_fault v.part v.blocks c ≡ Some f
      → ltb 0 (after 1 c bs ready_replies r).bus.breaches ≡ true
  counted call.Identify bs f j e i q = absurd (grind (arith, j))
  counted (call.Look p) bs f j e i q = absurd (grind (arith, j))
  counted call.Close bs f j e i q = absurd (grind (arith, j))
  counted (call.Read p c len) bs f j e i q = absurd (grind (arith, j))
  counted (call.Erase b) bs f j e i q =
      ap (λ x. ltb 0 (after 1 (call.Erase b) bs ready_replies x).bus.breaches) (resting v r k e) ∙ erase_counted v k.phase None k.register None b f q
  counted (call.Program p c) bs f j e i q =
      ap (λ x. ltb 0 (after 1 (call.Program p c) bs ready_replies x).bus.breaches) (resting v r k e) ∙ program_counted v k.phase None k.register None p c confirm.Program f i.0 q
  counted (call.CacheFirst p c) bs f j e i q =
      ap (λ x. ltb 0 (after 1 (call.CacheFirst p c) bs ready_replies x).bus.breaches) (resting v r k e) ∙ program_counted v k.phase None k.register None p c confirm.Cache f i.0 q
  counted (call.CacheNext n g c) bs f j e i q =
      let x = in_chain_by v r k n v.standing refl k.works e in
      ap (λ y. ltb 0 (after 1 (call.CacheNext n g c) bs ready_replies y).bus.breaches) x.at
      ∙ (ap (λ y. ltb 0 (after_program (row_at (chain_page n g)) c confirm.Cache y).bus.breaches) (polled_cache v k.phase k.register 0xC0 refl (Some x.page.block))
      ∙ program_counted v phase.Status None k.register (Some x.page.block) (chain_page n g) c confirm.Cache f i.0 q)
  counted (call.CacheLast n g c) bs f j e i q =
      let x = in_chain_by v r k n v.standing refl k.works e in
      ap (λ y. ltb 0 (after 1 (call.CacheLast n g c) bs ready_replies y).bus.breaches) x.at
      ∙ (ap (λ y. ltb 0 (after_program (row_at (chain_page n g)) c confirm.Program y).bus.breaches) (polled_cache v k.phase k.register 0xC0 refl (Some x.page.block))
      ∙ program_counted v phase.Status None k.register (Some x.page.block) (chain_page n g) c confirm.Program f i.0 q)
  counted (call.Copy p t) bs f j e i q =
      ap (λ x. ltb 0 (after 1 (call.Copy p t) bs ready_replies x).bus.breaches) (resting v r k e)
      ∙ (ap (λ y. ltb 0 (after_program (row_at t) first_column confirm.Copy y).bus.breaches) (opened v k.phase k.register (row_at p) first_column true 0xC0 refl)
      ∙ program_counted v phase.Status None (Some (record { row = (row_at p); column = first_column; copy = true })) None t first_column confirm.Copy f i.1 q)
  counted (call.Settle n) bs f j e i q = absurd (grind (arith, j))
  counted (call.Abandon n) bs f j e i q = absurd (grind (arith, j))
  counted call.Reset bs f j e i q = absurd (grind (arith, j))
  counted (call.Pick b) bs f j e i q = absurd (grind (arith, j))
  counted (call.Record b) bs f j e i q = absurd (grind (arith, j))

  -- the same view with a poll count of one
  once : View
  once = record { part = v.part; polls = 1; blocks = v.blocks; standing = v.standing }

  held_once : Held once r
  unfolding once
  held_once = record { phase = k.phase; busy = k.busy; register = k.register; chain = k.chain; calm = k.calm; works = k.works; is = k.is }

  uncounted : (c : Call) (bs : List ℕ) → state_fault v.part v.standing c ≡ None → Fits v.part c (length bs) → record_fault v.part v.blocks c ≡ None
      → ltb 0 (after 1 c bs ready_replies r).bus.breaches ≡ false
  unfolding once
  uncounted c bs e i q = ap (λ (x : Reader). ltb 0 x.bus.breaches) (kept once r c bs ready_replies held_once e i q).is

-- a call that the record let pass is answered by the port or the chip
passed_reply : (v : View) (c : Call) (rs : List ℕ) → judged c ≡ true → at_record (accepted v c rs).reply ≡ false
passed_reply v call.Identify rs j = absurd (grind (arith, j))
passed_reply v (call.Look p) rs j = absurd (grind (arith, j))
passed_reply v call.Close rs j = absurd (grind (arith, j))
passed_reply v (call.Read p c len) rs j = absurd (grind (arith, j))
passed_reply v (call.Erase b) rs j = refl
passed_reply v (call.Program p c) rs j = refl
passed_reply v (call.CacheFirst p c) rs j = refl
passed_reply v (call.CacheNext n g c) rs j = by (polled v.polls rs)
  where
    by : (x : Option ℕ) → at_record (next_by v (chain_page n g) x).reply ≡ false
    by None = refl
    by (Some s) = refl
passed_reply v (call.CacheLast n g c) rs j = by (polled v.polls rs)
  where
    by : (x : Option ℕ) → at_record (last_by v (chain_page n g) x).reply ≡ false
    by None = refl
    by (Some s) = refl
passed_reply v (call.Copy p q) rs j = by (polled v.polls rs)
  where
    by : (x : Option ℕ) → at_record (copied_by v p q x).reply ≡ false
    by None = refl
    by (Some s) = refl
passed_reply v (call.Settle n) rs j = absurd (grind (arith, j))
passed_reply v (call.Abandon n) rs j = absurd (grind (arith, j))
passed_reply v call.Reset rs j = absurd (grind (arith, j))
passed_reply v (call.Pick b) rs j = absurd (grind (arith, j))
passed_reply v (call.Record b) rs j = absurd (grind (arith, j))

room_at : (b : Bool) (p : Option Page) (f : Fault) → cond b (Some (fault.NoRoom p)) None ≡ Some f → at_record (refused f) ≡ false
room_at b p f e = grind (arith, e)

not_early : (f : Fault) → early (refused f) ≡ true → early (refused f) ≡ false → ⊥
not_early f e n = grind (arith, e, n)

module _ (v : View) (r : Reader) (k : Held v r) (c : Call) (bs rs : List ℕ) (j : judged c ≡ true) (room : ℕ) where
  abbrev Exactly : Option Fault → Type 0
  Exactly o = early (outcome_at o v c rs).reply ≡ false → at_record (outcome_at o v c rs).reply ≡ ltb 0 (steps r (ready_cycles v.part c bs)).bus.breaches

  ready_steps : state_fault v.part v.standing c ≡ None → Fits v.part c (length bs) → steps r (ready_cycles v.part c bs) ≡ after 1 c bs ready_replies r
  ready_steps e i =
      let p : r.bus.part ≡ v.part = ap (λ (q : Reader). q.bus.part) k.is in
      let m : r.bus.breaches ≡ 0 = ap (λ (q : Reader). q.bus.breaches) k.is in
      ap (λ q. steps r (ready_cycles q c bs)) (sym p) ∙ call_leaves 1 c bs ready_replies r (omega arith) (subst (λ q. Fits q c (length bs)) (sym p) i) (begins v r c (length bs) k e i)

  exact_by : (s a q d : Option Fault) → state_fault v.part v.standing c ≡ s → argument_fault v.part c (length bs) ≡ a → record_fault v.part v.blocks c ≡ q
      → port_fault room (most v.part v.polls c (length bs)) (page_named c) ≡ d → Exactly (or_else s (or_else a (or_else q d)))
  exact_by (Some f) a q d e i x y n = absurd (not_early f (early_by f (omega (arith, (of_reason 1 4 (state_within v.part v.standing c) e).1))) n)
  exact_by None (Some f) q d e i x y n = absurd (not_early f (early_by f (of_reason 5 7 (argument_within v.part c (length bs)) i).1) n)
  exact_by None None (Some f) d e i x y n =
      let t = fits v.part c (length bs) i in
      let w = counted v r k c bs f j e t x in
      record_at v c f x ∙ sym (ap (λ (z : Reader). ltb 0 z.bus.breaches) (ready_steps e t) ∙ w)
  exact_by None None None (Some f) e i x y n =
      let t = fits v.part c (length bs) i in
      room_at (ltb room (most v.part v.polls c (length bs))) (page_named c) f y ∙ sym (ap (λ (z : Reader). ltb 0 z.bus.breaches) (ready_steps e t) ∙ uncounted v r k c bs e t x)
  exact_by None None None None e i x y n =
      let t = fits v.part c (length bs) i in
      passed_reply v c rs j ∙ sym (ap (λ (z : Reader). ltb 0 z.bus.breaches) (ready_steps e t) ∙ uncounted v r k c bs e t x)

  exact_held : Exactly (refusal v room c (length bs))
  unfolding refusal
  exact_held = exact_by (state_fault v.part v.standing c) (argument_fault v.part c (length bs)) (record_fault v.part v.blocks c) (port_fault room (most v.part v.polls c (length bs)) (page_named c)) refl refl refl refl

pub exact : (v : View) (room : ℕ) (r : Reader) (c : Call) (bs rs : List ℕ) → Held v r → Exact c bs (outcome v room c (length bs) rs).reply r
exact v room r c bs rs k j n =
    let p : r.bus.part ≡ v.part = ap (λ (q : Reader). q.bus.part) k.is in
    let m : r.bus.breaches ≡ 0 = ap (λ (q : Reader). q.bus.breaches) k.is in
    exact_held v r k c bs rs j room n
    ∙ (ap (λ x. ltb 0 (steps r (ready_cycles x c bs)).bus.breaches) (sym p) ∙ ap (λ x. ltb x (steps r (ready_cycles r.bus.part c bs)).bus.breaches) (sym m))
