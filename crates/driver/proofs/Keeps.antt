-- The view and the reader agree after every call.
use Rattle.std.proofs.Common.{◌≡◌, ℕ, ◌+◌, ◌*◌, ◌/◌, ◌%◌, Bool, true, false, cond, not, List, length, get_or, Some, None, Option, sym, refl, ap, ◌∙◌, subst, arith}
use Rattle.std.proofs.lemmas.Bool.{eqb-true}
use Rattle.std.proofs.lemmas.Bool.Decides.{nat_tests}
use Rattle.flash.specs.Addresses.{row_at}
use Rattle.flash.specs.Records.{first_record, fit, out_of_order, programmed_out, stale}
use Rattle.flash.specs.Statuses.{ready, verdict_of}
use Rattle.flash.specs.declared.address.Column.{Column}
use Rattle.flash.specs.declared.address.Row.{Row}
use Rattle.flash.specs.declared.fault.Fault.{Fault}
use Rattle.flash.specs.declared.fault.Fault.TheVariants as fault
use Rattle.flash.specs.declared.page.Page.{Page}
use Rattle.flash.specs.declared.part.Part.{Part}
use Rattle.flash.specs.declared.record.BlockRecord.{BlockRecord}
use Rattle.flash.specs.declared.record.Pages.{Pages}
use Rattle.bus.specs.Bus.{Reader, steps}
use Rattle.bus.specs.States.{allowed_in, quiet, closed, known}
use Rattle.bus.specs.declared.act.Confirm.{Confirm}
use Rattle.bus.specs.declared.act.Confirm.TheVariants as confirm
use Rattle.bus.specs.declared.state.Phase.{Phase}
use Rattle.bus.specs.declared.state.Phase.TheVariants as phase
use Rattle.bus.specs.declared.state.Work.{Work}
use Rattle.bus.specs.declared.state.Work.TheVariants as work
use Rattle.bus.specs.declared.state.PageRead.{PageRead}
use Rattle.record.specs.Judgements.{unfit, unready}
use Rattle.calls.specs.Table.{slip_page, chain_page, cycles}
use Rattle.calls.specs.Told.{InPart, Fits}
use Rattle.calls.specs.declared.call.Call.{Call}
use Rattle.calls.specs.declared.call.Call.TheVariants as call
use Rattle.driver.specs.Views.{View, block_page, erase_slip, program_slip, chain_slip, slip_out, block_at_work, is_stuck}
use Rattle.driver.specs.Views as views
use Rattle.driver.specs.Refusals.{free_fault, slip_fault, state_fault, argument_fault, program_fault, record_fault, refusal}
use Rattle.driver.specs.declared.standing.Standing.{Standing}
use Rattle.driver.specs.declared.standing.Standing.TheVariants as standing
use Rattle.flash.specs.Parts.{identified}
use Rattle.commands.specs.Polls.{polled, left, first_of}
use Rattle.commands.specs.Sequences.{first_column}
use Rattle.calls.specs.Afters.{after_poll, after_reset, after_erase, after_program, after_open, after_bytes, after_identity, if_ready, noted, after}
use Rattle.calls.specs.Table.{mark_column, block_row}
use Rattle.calls.proofs.Polled.{ends_ready}
use Rattle.calls.proofs.Theorems.{call_leaves}
use Rattle.driver.specs.Outcomes.{leaving, standing_at, changed_in, programmed_in, named, identified_by, looked, read_by, erasing, next_by, last_by, copied_by, ended_in, settled_by, cut_off, reset_by, accepted, outcome_at, outcome, cycles_at, call_cycles}
use Rattle.driver.proofs.Holds.{reader_at, Works, Held, some_none, or_none, fits, begins, free_ready, slip_out_lem}

-- ## What the record lets pass is what the reader does not blame

pub fit_passed : (p : Page) (k : BlockRecord) → unfit p k ≡ None → fit k ≡ true
fit_passed p k e = grind (arith, nat_tests)

pub order_passed : (p : Page) (chain : Bool) (n : ℕ) (ps : Pages) → unready p chain n ps ≡ None → out_of_order ps chain p.page ≡ false
order_passed p chain n ps e = grind (arith, nat_tests)

pub often_passed : (p : Page) (chain : Bool) (n : ℕ) (ps : Pages) → unready p chain n ps ≡ None → programmed_out n ps p.page ≡ false
often_passed p chain n ps e = grind (arith, nat_tests)

pub row_block : (o : Option Part) (p : Page) → InPart o p → (64 * p.block + p.page) / 64 ≡ p.block
row_block o p i = omega (arith, i.page)

pub row_page : (o : Option Part) (p : Page) → InPart o p → (64 * p.block + p.page) % 64 ≡ p.page
row_page o p i = omega (arith, i.page)

-- ## An erase and a program, judged

module _ (v : View) (h : Phase) (b : Option Work) (g : Option PageRead) (k : Option ℕ) where
  erase_after : (x : ℕ) → record_fault v.part v.blocks (call.Erase x) ≡ None
      → after_erase (block_row x) (reader_at v h b g k) ≡ reader_at (erasing v x).view phase.Quiet (Some (work.Erase x)) None k
  erase_after x e =
      let f : fit (get_or v.blocks x first_record) ≡ true = fit_passed (block_page x) (get_or v.blocks x first_record) e in
      let y : (64 * x + 0) / 64 ≡ x = omega arith in
      simp (y, f)

  abbrev busy_after : Confirm → Page → Option Work
  busy_after confirm.Program p = Some (work.Program p.block)
  busy_after confirm.Cache p = Some work.CachePage
  busy_after confirm.Copy p = Some (work.Program p.block)

  abbrev chain_after : Confirm → Page → Option ℕ
  chain_after confirm.Program p = k
  chain_after confirm.Cache p = Some p.block
  chain_after confirm.Copy p = k

  program_after : (p : Page) (c : Column) (f : Confirm) (s : Standing) → InPart v.part p → program_fault v.part v.blocks p (not (closed k)) ≡ None
      → after_program (row_at p) c f (reader_at v h b g k) ≡ reader_at (leaving v (programmed_in v p) s) phase.Quiet (busy_after f p) None (chain_after f p)
  program_after p c f s i e =
      let rec = get_or v.blocks p.block first_record in
      let x = or_none (unfit p rec) (unready p (not (closed k)) (allowed_in v.part) rec.pages) e in
      let q1 : fit (get_or v.blocks p.block first_record) ≡ true = fit_passed p rec x.0 in
      let q2 : out_of_order (get_or v.blocks p.block first_record).pages (not (closed k)) p.page ≡ false = order_passed p (not (closed k)) (allowed_in v.part) rec.pages x.1 in
      let q3 : programmed_out (allowed_in v.part) (get_or v.blocks p.block first_record).pages p.page ≡ false = often_passed p (not (closed k)) (allowed_in v.part) rec.pages x.1 in
      let y : (64 * p.block + p.page) / 64 ≡ p.block = row_block v.part p i in
      let z : (64 * p.block + p.page) % 64 ≡ p.page = row_page v.part p i in
      by_confirm f y z q1 q2 q3
    where
      by_confirm : (f : Confirm) → (64 * p.block + p.page) / 64 ≡ p.block → (64 * p.block + p.page) % 64 ≡ p.page
          → fit (get_or v.blocks p.block first_record) ≡ true
          → out_of_order (get_or v.blocks p.block first_record).pages (not (closed k)) p.page ≡ false
          → programmed_out (allowed_in v.part) (get_or v.blocks p.block first_record).pages p.page ≡ false
          → after_program (row_at p) c f (reader_at v h b g k) ≡ reader_at (leaving v (programmed_in v p) s) phase.Quiet (busy_after f p) None (chain_after f p)
      by_confirm confirm.Program y z q1 q2 q3 = simp (y, z, q1, q2, q3)
      by_confirm confirm.Cache y z q1 q2 q3 = simp (y, z, q1, q2, q3)
      by_confirm confirm.Copy y z q1 q2 q3 = simp (y, z, q1, q2, q3)

-- ## Polls

module _ (v : View) (h : Phase) (g : Option PageRead) (s : ℕ) (e : ready s ≡ true) where
  -- work that touches no record ends
  polled_reset : (k : Option ℕ) → after_poll (Some s) (reader_at v h (Some work.Reset) g k) ≡ reader_at v phase.Status None g k
  polled_reset k = simp e

  pub polled_cache : (k : Option ℕ) → after_poll (Some s) (reader_at v h (Some work.CachePage) g k) ≡ reader_at v phase.Status None g k
  polled_cache k = simp e

  polled_read : (w : Row) (c : Column) (f : Bool) (k : Option ℕ) → after_poll (Some s) (reader_at v h (Some (work.Read (record { row = w; column = c; copy = f }))) g k) ≡ reader_at v phase.Status None (Some (record { row = w; column = c; copy = f })) k
  polled_read w c f k = simp e

  polled_erase : (x : ℕ) (k : Option ℕ)
      → after_poll (Some s) (reader_at v h (Some (work.Erase x)) g k) ≡ reader_at (leaving v (ended_in v (standing.Erasing x) (verdict_of s)) standing.Ready) phase.Status None g k
  polled_erase x k = simp e

  polled_program : (p : Page) (k : Option ℕ)
      → after_poll (Some s) (reader_at v h (Some (work.Program p.block)) g k) ≡ reader_at (leaving v (ended_in v (standing.Programming p) (verdict_of s)) standing.Ready) phase.Status None g None
  polled_program p k = simp e

-- ## Each kind of call

-- the poll's status, if there is one, is ready
abbrev Answered : Option ℕ → Type 0
Answered x = (s : ℕ) → x ≡ Some s → ready s ≡ true

at_rest : (v : View) (ks : List BlockRecord) (h : Phase) (g : Option PageRead) → quiet h ≡ true → Held (leaving v ks standing.Ready) (reader_at (leaving v ks standing.Ready) h None g None)
at_rest v ks h g q = record { phase = h; busy = None; register = g; chain = None; calm = q; works = (refl, refl); is = refl }

held_as : (v : View) (r s : Reader) → r ≡ s → Held v s → Held v r
held_as v r s e k = subst (λ x. Held v x) (sym e) k

settled_by_lem : (v : View) (p : Page) (t : Standing) (h : Phase) (b : Option Work) (g : Option PageRead) (k : Option ℕ) (n : ℕ) (x : Option ℕ) → v.standing ≡ t → Works v.part t b k
    → slip_fault t n (not (views.in_chain t)) ≡ None → Answered x → Held (settled_by v p x).view (after_poll x (reader_at v h b g k))
settled_by_lem v p t h b g k n None i w e a = record { phase = phase.Status; busy = b; register = g; chain = k; calm = refl; works = subst (λ y. Works v.part y b k) (sym i) w; is = refl }
settled_by_lem v p standing.Ready h b g k n (Some s) i w e a = absurd (grind (arith, (slip_out_lem standing.Ready n true e).0))
settled_by_lem v p standing.Stuck h b g k n (Some s) i w e a = absurd (some_none e)
settled_by_lem v p (standing.Erasing y) h b g k n (Some s) i w e a =
    rw (i, w.0, w.1) (held_as _ _ _ (polled_erase v h g s (a s refl) y None) (at_rest v _ phase.Status g refl))
settled_by_lem v p (standing.Programming y) h b g k n (Some s) i w e a =
    rw (i, w) (held_as _ _ _ (polled_program v h g s (a s refl) y k) (at_rest v _ phase.Status g refl))
settled_by_lem v p (standing.Chaining y) h b g k n (Some s) i w e a = absurd (grind (arith, (slip_out_lem (standing.Chaining y) n false e).1))

-- FFh, whatever is under way
reset_after : (v : View) (t : Standing) (h : Phase) (b : Option Work) (g : Option PageRead) (k : Option ℕ) (u : Standing) → v.standing ≡ t → Works v.part t b k
    → after_reset (reader_at v h b g k) ≡ reader_at (leaving v (changed_in v (block_at_work t) stale) u) phase.Quiet (Some work.Reset) None None
reset_after v standing.Ready h b g k u i w = rw (w.0, w.1) refl
reset_after v standing.Stuck h b g k u i w = rw w.1 (simp w.0)
reset_after v (standing.Erasing y) h b g k u i w = rw w.0 refl
reset_after v (standing.Programming y) h b g k u i w = rw w refl
reset_after v (standing.Chaining y) h b g k u i w = rw (w.0, w.1) refl

reset_by_lem : (v : View) (p : Option Page) (h : Phase) (b : Option Work) (g : Option PageRead) (k : Option ℕ) (x : Option ℕ) → Works v.part v.standing b k → Answered x
    → Held (reset_by v p x).view (after_poll x (after_reset (reader_at v h b g k)))
reset_by_lem v p h b g k None w a =
    held_as _ _ _ (ap (after_poll None) (reset_after v v.standing h b g k standing.Stuck refl w))
    (record { phase = phase.Status; busy = Some work.Reset; register = None; chain = None; calm = refl; works = (refl, refl); is = refl })
reset_by_lem v p h b g k (Some s) w a =
    held_as _ _ _ (ap (after_poll (Some s)) (reset_after v v.standing h b g k standing.Ready refl w) ∙ polled_reset (leaving v (cut_off v) standing.Ready) phase.Quiet None s (a s refl) None)
    (at_rest v (cut_off v) phase.Status None refl)

-- a page opened from rest: the session is stuck, or the page is in the register
module _ (v : View) (h : Phase) (g : Option PageRead) (w : Row) (c : Column) (copy : Bool) where
  stuck_open : (u : View) → u ≡ standing_at v standing.Stuck → Held u (after_poll None (after_open w c copy (reader_at v h None g None)))
  stuck_open u e = subst (λ x. Held x (after_poll None (after_open w c copy (reader_at v h None g None)))) (sym e)
      (record { phase = phase.Status; busy = Some (work.Read (record { row = w; column = c; copy = copy })); register = None; chain = None; calm = refl; works = (refl, refl); is = refl })

  pub opened : (s : ℕ) → ready s ≡ true → after_poll (Some s) (after_open w c copy (reader_at v h None g None)) ≡ reader_at v phase.Status None (Some (record { row = w; column = c; copy = copy })) None
  opened s e = polled_read v phase.Quiet None s e w c copy None

read_by_lem : (v : View) (h : Phase) (g : Option PageRead) (p : Page) (c : Column) (bs : List ℕ) (x : Option ℕ) → Answered x
    → Held (read_by v p c bs x).view (if_ready x (after_bytes (row_at p) c bs) (after_poll x (after_open (row_at p) c false (reader_at v h None g None))))
read_by_lem v h g p c bs None a = stuck_open v h g (row_at p) c false _ refl
read_by_lem v h g p c bs (Some s) a =
    held_as _ _ _ (ap (after_bytes (row_at p) c bs) (opened v h g (row_at p) c false s (a s refl)))
    (at_rest v (noted v.part (row_at p) c.number bs v.blocks) phase.Output (Some (record { row = (row_at p); column = (record { number = c.number + length bs }); copy = false })) refl)

look_by : (v : View) (h : Phase) (g : Option PageRead) (p : Page) (bs : List ℕ) (x : Option ℕ) → Answered x
    → Held (looked v p bs x).view (if_ready x (after_bytes (row_at p) mark_column bs) (after_poll x (after_open (row_at p) mark_column false (reader_at v h None g None))))
look_by v h g p bs None a = read_by_lem v h g p mark_column bs None a
look_by v h g p bs (Some s) a = read_by_lem v h g p mark_column bs (Some s) a

copied_by_lem : (v : View) (h : Phase) (g : Option PageRead) (p q : Page) (x : Option ℕ) → InPart v.part q → program_fault v.part v.blocks q false ≡ None → Answered x
    → Held (copied_by v p q x).view (if_ready x (after_program (row_at q) first_column confirm.Copy) (after_poll x (after_open (row_at p) first_column true (reader_at v h None g None))))
copied_by_lem v h g p q None i e a = stuck_open v h g (row_at p) first_column true _ refl
copied_by_lem v h g p q (Some s) i e a =
    held_as _ _ _ (ap (after_program (row_at q) first_column confirm.Copy) (opened v h g (row_at p) first_column true s (a s refl))
    ∙ program_after v phase.Status None (Some (record { row = (row_at p); column = first_column; copy = true })) None q first_column confirm.Copy (standing.Programming q) i e)
    (record { phase = phase.Quiet; busy = Some (work.Program q.block); register = None; chain = None; calm = refl; works = refl; is = refl })

-- a later page of a chain
module _ (v : View) (h : Phase) (g : Option PageRead) (y p : Page) (c : Column) (t : v.standing ≡ standing.Chaining y) (j : InPart v.part y) (i : InPart v.part p)
    (e : program_fault v.part v.blocks p true ≡ None) where
  chain_still : Held v (after_poll None (reader_at v h (Some work.CachePage) g (Some y.block)))
  chain_still = record { phase = phase.Status; busy = Some work.CachePage; register = g; chain = Some y.block; calm = refl; works = subst (λ x. Works v.part x (Some work.CachePage) (Some y.block)) (sym t) (refl, refl, j); is = refl }

  next_by_lem : (x : Option ℕ) → Answered x → Held (next_by v p x).view (if_ready x (after_program (row_at p) c confirm.Cache) (after_poll x (reader_at v h (Some work.CachePage) g (Some y.block))))
  next_by_lem None a = chain_still
  next_by_lem (Some s) a =
      held_as _ _ _ (ap (after_program (row_at p) c confirm.Cache) (polled_cache v h g s (a s refl) (Some y.block))
      ∙ program_after v phase.Status None g (Some y.block) p c confirm.Cache (standing.Chaining p) i e)
      (record { phase = phase.Quiet; busy = Some work.CachePage; register = None; chain = Some p.block; calm = refl; works = (refl, refl, i); is = refl })

  last_by_lem : (x : Option ℕ) → Answered x → Held (last_by v p x).view (if_ready x (after_program (row_at p) c confirm.Program) (after_poll x (reader_at v h (Some work.CachePage) g (Some y.block))))
  last_by_lem None a = chain_still
  last_by_lem (Some s) a =
      held_as _ _ _ (ap (after_program (row_at p) c confirm.Program) (polled_cache v h g s (a s refl) (Some y.block))
      ∙ program_after v phase.Status None g (Some y.block) p c confirm.Program (standing.Programming p) i e)
      (record { phase = phase.Quiet; busy = Some (work.Program p.block); register = None; chain = Some y.block; calm = refl; works = refl; is = refl })

-- the identity of a part that is not yet known
named_by : (v : View) (g : Option PageRead) (bs : List ℕ) (o : Option Part) → v.part ≡ None → identified bs ≡ o
    → Held (named v bs o).view (after_identity bs (reader_at v phase.Status None g None))
named_by v g bs None u e = record { phase = phase.Quiet; busy = None; register = None; chain = None; calm = refl; works = (refl, refl); is = simp (u, e) }
named_by v g bs (Some p) u e = record { phase = phase.Quiet; busy = None; register = None; chain = None; calm = refl; works = (refl, refl); is = simp (u, e) }

identified_by_lem : (v : View) (h : Phase) (g : Option PageRead) (bs : List ℕ) (x : Option ℕ) → v.standing ≡ standing.Ready → v.part ≡ None → Answered x
    → Held (identified_by v bs x).view (if_ready x (after_identity bs) (after_poll x (after_reset (reader_at v h None g None))))
identified_by_lem v h g bs None t u a = record { phase = phase.Status; busy = Some work.Reset; register = None; chain = None; calm = refl; works = (refl, refl); is = refl }
identified_by_lem v h g bs (Some s) t u a =
    held_as _ _ _ (ap (after_identity bs) (polled_reset v phase.Quiet None s (a s refl) None)) (named_by v None bs (identified bs) u refl)

-- ## Every call

unknown : (o : Option Part) → cond (not (known o)) None (Some fault.Identified) ≡ None → o ≡ None
unknown None e = refl
unknown (Some p) e = absurd (some_none e)

module _ (v : View) (n : ℕ) (rs : List ℕ) where
  answered : (x : Option ℕ) → polled n rs ≡ x → Answered x
  answered x i s e = ends_ready n rs s (i ∙ e)

-- from rest
module _ (v : View) (r : Reader) (k : Held v r) (e : free_fault v.standing ≡ None) where
  ready_works : Works v.part standing.Ready k.busy k.chain
  ready_works = subst (λ x. Works v.part x k.busy k.chain) (free_ready v.standing e) k.works

  pub resting : r ≡ reader_at v k.phase None k.register None
  resting = k.is ∙ (ap (λ b. reader_at v k.phase b k.register k.chain) ready_works.0 ∙ ap (λ c. reader_at v k.phase None k.register c) ready_works.1)

  from_rest : (u : View) (f : Reader → Reader) → Held u (f (reader_at v k.phase None k.register None)) → Held u (f r)
  from_rest u f h = held_as u (f r) (f (reader_at v k.phase None k.register None)) (ap f resting) h

-- in a chain
pub record InChain (v : View) (r : Reader) (k : Held v r) (n : ℕ) : Type 0 where
  pub page : Page
  pub stands : v.standing ≡ standing.Chaining page
  pub inside : InPart v.part page
  pub number : chain_slip page ≡ n
  pub at : r ≡ reader_at v k.phase (Some work.CachePage) k.register (Some page.block)

pub in_chain_by : (v : View) (r : Reader) (k : Held v r) (n : ℕ) (t : Standing) → v.standing ≡ t → Works v.part t k.busy k.chain → slip_fault t n (views.in_chain t) ≡ None → InChain v r k n
in_chain_by v r k n standing.Ready i w e = absurd (grind (arith, (slip_out_lem standing.Ready n false e).1))
in_chain_by v r k n standing.Stuck i w e = absurd (some_none e)
in_chain_by v r k n (standing.Erasing x) i w e = absurd (grind (arith, (slip_out_lem (standing.Erasing x) n false e).1))
in_chain_by v r k n (standing.Programming p) i w e = absurd (grind (arith, (slip_out_lem (standing.Programming p) n false e).1))
in_chain_by v r k n (standing.Chaining p) i w e = record {
  page = p;
  stands = i;
  inside = w.2;
  number = eqb-true (chain_slip p) n (slip_out_lem (standing.Chaining p) n true e).0;
  at = k.is ∙ (ap (λ b. reader_at v k.phase b k.register k.chain) w.0 ∙ ap (λ c. reader_at v k.phase (Some work.CachePage) k.register c) w.1);
}

pub kept : (v : View) (r : Reader) (c : Call) (bs rs : List ℕ) → Held v r → state_fault v.part v.standing c ≡ None → Fits v.part c (length bs) → record_fault v.part v.blocks c ≡ None
    → Held (accepted v c rs).view (after v.polls c bs rs r)
kept v r call.Identify bs rs k e i f =
    let x = or_none (free_fault v.standing) _ e in
    let u : v.part ≡ None = unknown v.part x.1 in
    from_rest v r k x.0 (identified_by v (first_of 5 (left v.polls rs)) (polled v.polls rs)).view (λ q. after v.polls call.Identify bs rs q)
    (identified_by_lem v k.phase k.register (first_of 5 (left v.polls rs)) (polled v.polls rs) (free_ready v.standing x.0) u (answered v v.polls rs (polled v.polls rs) refl))
kept v r (call.Look p) bs rs k e i f =
    from_rest v r k e _ (λ q. after v.polls (call.Look p) bs rs q)
    (look_by v k.phase k.register p (first_of 1 (left v.polls rs)) (polled v.polls rs) (answered v v.polls rs (polled v.polls rs) refl))
kept v r call.Close bs rs k e i f = k
kept v r (call.Read p c len) bs rs k e i f =
    from_rest v r k e _ (λ q. after v.polls (call.Read p c len) bs rs q)
    (read_by_lem v k.phase k.register p c (first_of len (left v.polls rs)) (polled v.polls rs) (answered v v.polls rs (polled v.polls rs) refl))
kept v r (call.Erase b) bs rs k e i f =
    from_rest v r k e _ (λ q. after v.polls (call.Erase b) bs rs q)
    (held_as _ _ _ (erase_after v k.phase None k.register None b f)
    (record { phase = phase.Quiet; busy = Some (work.Erase b); register = None; chain = None; calm = refl; works = (refl, refl); is = refl }))
kept v r (call.Program p c) bs rs k e i f =
    from_rest v r k e _ (λ q. after v.polls (call.Program p c) bs rs q)
    (held_as _ _ _ (program_after v k.phase None k.register None p c confirm.Program (standing.Programming p) i.0 f)
    (record { phase = phase.Quiet; busy = Some (work.Program p.block); register = None; chain = None; calm = refl; works = refl; is = refl }))
kept v r (call.CacheFirst p c) bs rs k e i f =
    from_rest v r k e _ (λ q. after v.polls (call.CacheFirst p c) bs rs q)
    (held_as _ _ _ (program_after v k.phase None k.register None p c confirm.Cache (standing.Chaining p) i.0 f)
    (record { phase = phase.Quiet; busy = Some work.CachePage; register = None; chain = Some p.block; calm = refl; works = (refl, refl, i.0); is = refl }))
kept v r (call.CacheNext n g c) bs rs k e i f =
    let x = in_chain_by v r k n v.standing refl k.works e in
    held_as _ _ _ (ap (λ q. after v.polls (call.CacheNext n g c) bs rs q) x.at)
    (next_by_lem v k.phase k.register x.page (chain_page n g) c x.stands x.inside i.0 f (polled v.polls rs) (answered v v.polls rs (polled v.polls rs) refl))
kept v r (call.CacheLast n g c) bs rs k e i f =
    let x = in_chain_by v r k n v.standing refl k.works e in
    held_as _ _ _ (ap (λ q. after v.polls (call.CacheLast n g c) bs rs q) x.at)
    (last_by_lem v k.phase k.register x.page (chain_page n g) c x.stands x.inside i.0 f (polled v.polls rs) (answered v v.polls rs (polled v.polls rs) refl))
kept v r (call.Copy p q) bs rs k e i f =
    from_rest v r k e _ (λ x. after v.polls (call.Copy p q) bs rs x)
    (copied_by_lem v k.phase k.register p q (polled v.polls rs) i.1 f (answered v v.polls rs (polled v.polls rs) refl))
kept v r (call.Settle n) bs rs k e i f =
    held_as _ _ _ (ap (λ q. after v.polls (call.Settle n) bs rs q) k.is)
    (settled_by_lem v (slip_page n) v.standing k.phase k.busy k.register k.chain n (polled v.polls rs) refl k.works e (answered v v.polls rs (polled v.polls rs) refl))
kept v r (call.Abandon n) bs rs k e i f =
    held_as _ _ _ (ap (λ q. after v.polls (call.Abandon n) bs rs q) k.is)
    (reset_by_lem v (Some (slip_page n)) k.phase k.busy k.register k.chain (polled v.polls rs) k.works (answered v v.polls rs (polled v.polls rs) refl))
kept v r call.Reset bs rs k e i f =
    held_as _ _ _ (ap (λ q. after v.polls call.Reset bs rs q) k.is)
    (reset_by_lem v None k.phase k.busy k.register k.chain (polled v.polls rs) k.works (answered v v.polls rs (polled v.polls rs) refl))
kept v r (call.Pick b) bs rs k e i f = k
kept v r (call.Record b) bs rs k e i f = k

-- a call that is refused before the chip changes nothing
kept_at : (o : Option Fault) (v : View) (room : ℕ) (r : Reader) (c : Call) (bs rs : List ℕ) → refusal v room c (length bs) ≡ o → Held v r → Held (outcome_at o v c rs).view (steps r (cycles_at o v c bs rs))
unfolding refusal
kept_at (Some f) v room r c bs rs e k = k
kept_at None v room r c bs rs e k =
    let x = or_none (state_fault v.part v.standing c) _ e in
    let y = or_none (argument_fault v.part c (length bs)) _ x.1 in
    let z = or_none (record_fault v.part v.blocks c) _ y.1 in
    let i : Fits v.part c (length bs) = fits v.part c (length bs) y.0 in
    let p : r.bus.part ≡ v.part = ap (λ (q : Reader). q.bus.part) k.is in
    let m : r.bus.breaches ≡ 0 = ap (λ (q : Reader). q.bus.breaches) k.is in
    held_as _ _ _
    (ap (λ q. steps r (cycles q v.polls c bs rs)) (sym p)
    ∙ call_leaves v.polls c bs rs r (omega arith) (subst (λ q. Fits q c (length bs)) (sym p) i) (begins v r c (length bs) k x.0 i))
    (kept v r c bs rs k x.0 i z.0)

pub call_kept : (v : View) (room : ℕ) (r : Reader) (c : Call) (bs rs : List ℕ) → Held v r → Held (outcome v room c (length bs) rs).view (steps r (call_cycles v room c bs rs))
call_kept v room r c bs rs k = kept_at (refusal v room c (length bs)) v room r c bs rs refl k
