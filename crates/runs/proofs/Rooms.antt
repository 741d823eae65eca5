-- On a model chip with enough block records no call is turned away for want of room.
use Rattle.std.proofs.Common.{◌≡◌, ℕ, ◌+◌, ◌≤◌, Bool, true, false, cond, eqb, ◌⊎◌, List, [], ◌∷◌, length, get_or, Some, None, Option, sym, refl, ap, ◌∙◌, inl, inr, ⊎_elim, arith}
use Rattle.std.proofs.lemmas.Bool.Decides.{nat_tests}
use Rattle.flash.specs.Faults.{number_of}
use Rattle.flash.specs.Parts.{identified}
use Rattle.flash.specs.Records.{first_record}
use Rattle.flash.specs.Statuses.{verdict_of}
use Rattle.flash.specs.declared.fault.Fault.{Fault}
use Rattle.flash.specs.declared.page.Page.{Page}
use Rattle.flash.specs.declared.part.Part.{Part}
use Rattle.flash.specs.declared.record.BlockRecord.{BlockRecord}
use Rattle.flash.specs.declared.record.Pages.{Pages}
use Rattle.flash.specs.declared.status.Verdict.{Verdict}
use Rattle.flash.specs.declared.status.Verdict.TheVariants as verdict
use Rattle.bus.specs.States.{allowed_in}
use Rattle.commands.specs.Polls.{polled, left, first_of}
use Rattle.record.specs.Judgements.{or_else, unfit, unready}
use Rattle.calls.specs.Table.{slip_page, chain_page, cycles, row_count, most}
use Rattle.calls.specs.Told.{Fits}
use Rattle.calls.specs.declared.call.Call.{Call}
use Rattle.calls.specs.declared.call.Call.TheVariants as call
use Rattle.calls.proofs.Lengths.{within_most}
use Rattle.chip.specs.Models.{means_of, has_room}
use Rattle.chip.specs.declared.model.ModelChip.{ModelChip}
use Rattle.driver.specs.Opens.{poll_count}
use Rattle.driver.specs.Outcomes.{named, identified_by, looked, read_by, next_by, last_by, copied_by, verdict_reply, settled_by, reset_by, accepted, outcome_at, outcome, cycles_at, call_cycles}
use Rattle.driver.specs.Refusals.{state_fault, argument_fault, program_fault, record_fault, port_fault, page_named, refusal}
use Rattle.driver.specs.Scripts.{Rooms}
use Rattle.driver.specs.Turns.{answered, not_offered, Turn, Where, view_at, advanced, Lawful, Law, Pinned}
use Rattle.driver.specs.Turns as turns
use Rattle.driver.specs.Views.{View, block_page}
use Rattle.driver.proofs.Holds.{some_none, fits}
use Rattle.driver.proofs.Reasons.{of_reason, state_within, argument_within, record_within}
use Rattle.runs.specs.Owners.{chips, full_reply, full_answer, NeverFull}

-- ## What a call may need at the most

pub polls_few : (n : ℕ) → poll_count n ≤ 1000
polls_few n = grind (arith, nat_tests)

rows_few : (o : Option Part) → row_count o ≤ 3
rows_few o = grind arith

most_few : (o : Option Part) (n : ℕ) (c : Call) (z : ℕ) → n ≤ 1000 → Fits o c z → most o n c z ≤ 5000
most_few o n call.Identify z h i = omega (arith, rows_few o)
most_few o n (call.Look p) z h i = omega (arith, rows_few o)
most_few o n call.Close z h i = omega arith
most_few o n (call.Read p c len) z h i = omega (arith, rows_few o, i.1.fits)
most_few o n (call.Erase b) z h i = omega (arith, rows_few o)
most_few o n (call.Program p c) z h i = omega (arith, rows_few o, i.1.fits)
most_few o n (call.CacheFirst p c) z h i = omega (arith, rows_few o, i.1.fits)
most_few o n (call.CacheNext s g c) z h i = omega (arith, rows_few o, i.1.fits)
most_few o n (call.CacheLast s g c) z h i = omega (arith, rows_few o, i.1.fits)
most_few o n (call.Copy p q) z h i = omega (arith, rows_few o)
most_few o n (call.Settle s) z h i = omega arith
most_few o n (call.Abandon s) z h i = omega arith
most_few o n call.Reset z h i = omega arith
most_few o n (call.Pick b) z h i = omega arith
most_few o n (call.Record b) z h i = omega arith

-- ## Faults of the other places

not_full_below : (f : Fault) → number_of f ≤ 12 → eqb (number_of f) 13 ≡ false
not_full_below f l = grind (arith, l)

room_enough : (room need : ℕ) (p : Option Page) → need ≤ room → port_fault room need p ≡ None
room_enough room need p h = grind (arith, nat_tests, h)

-- ## Replies of the chip

accepted_other : (v : View) (c : Call) (rs : List ℕ) → full_reply (accepted v c rs).reply ≡ false
accepted_other v call.Identify rs = by (polled v.polls rs)
  where
    name : (o : Option Part) → full_reply (named v (first_of 5 (left v.polls rs)) o).reply ≡ false
    name None = refl
    name (Some p) = refl

    by : (x : Option ℕ) → full_reply (identified_by v (first_of 5 (left v.polls rs)) x).reply ≡ false
    by None = refl
    by (Some s) = name (identified (first_of 5 (left v.polls rs)))
accepted_other v (call.Look p) rs = by (polled v.polls rs)
  where
    by : (x : Option ℕ) → full_reply (looked v p (first_of 1 (left v.polls rs)) x).reply ≡ false
    by None = refl
    by (Some s) = refl
accepted_other v call.Close rs = refl
accepted_other v (call.Read p c len) rs = by (polled v.polls rs)
  where
    by : (x : Option ℕ) → full_reply (read_by v p c (first_of len (left v.polls rs)) x).reply ≡ false
    by None = refl
    by (Some s) = refl
accepted_other v (call.Erase b) rs = refl
accepted_other v (call.Program p c) rs = refl
accepted_other v (call.CacheFirst p c) rs = refl
accepted_other v (call.CacheNext n g c) rs = by (polled v.polls rs)
  where
    by : (x : Option ℕ) → full_reply (next_by v (chain_page n g) x).reply ≡ false
    by None = refl
    by (Some s) = refl
accepted_other v (call.CacheLast n g c) rs = by (polled v.polls rs)
  where
    by : (x : Option ℕ) → full_reply (last_by v (chain_page n g) x).reply ≡ false
    by None = refl
    by (Some s) = refl
accepted_other v (call.Copy p q) rs = by (polled v.polls rs)
  where
    by : (x : Option ℕ) → full_reply (copied_by v p q x).reply ≡ false
    by None = refl
    by (Some s) = refl
accepted_other v (call.Settle n) rs = by (polled v.polls rs)
  where
    ends : (y : Verdict) → full_reply (verdict_reply (slip_page n) y) ≡ false
    ends verdict.Good = refl
    ends verdict.Failed = refl
    ends verdict.Protected = refl

    by : (x : Option ℕ) → full_reply (settled_by v (slip_page n) x).reply ≡ false
    by None = refl
    by (Some s) = ends (verdict_of s)
accepted_other v (call.Abandon n) rs = by (polled v.polls rs)
  where
    by : (x : Option ℕ) → full_reply (reset_by v (Some (slip_page n)) x).reply ≡ false
    by None = refl
    by (Some s) = refl
accepted_other v call.Reset rs = by (polled v.polls rs)
  where
    by : (x : Option ℕ) → full_reply (reset_by v None x).reply ≡ false
    by None = refl
    by (Some s) = refl
accepted_other v (call.Pick b) rs = refl
accepted_other v (call.Record b) rs = refl

-- ## One call on a port with full room

module _ (v : View) (room : ℕ) (c : Call) (bs rs : List ℕ) (few : v.polls ≤ 1000) (full : 5000 ≤ room) where
  not_full_by : (s a q d : Option Fault) → state_fault v.part v.standing c ≡ s → argument_fault v.part c (length bs) ≡ a → record_fault v.part v.blocks c ≡ q
      → port_fault room (most v.part v.polls c (length bs)) (page_named c) ≡ d
      → (full_reply (outcome_at (or_else s (or_else a (or_else q d))) v c rs).reply ≡ false) × (length (cycles_at (or_else s (or_else a (or_else q d))) v c bs rs) ≤ 5000)
  not_full_by (Some f) a q d e i x y = (not_full_below f (omega (arith, (of_reason 1 4 (state_within v.part v.standing c) e).1)), omega arith)
  not_full_by None (Some f) q d e i x y = (not_full_below f (omega (arith, (of_reason 5 7 (argument_within v.part c (length bs)) i).1)), omega arith)
  not_full_by None None (Some f) d e i x y = (not_full_below f (of_reason 8 12 (record_within v.part v.blocks c) x).1, omega arith)
  not_full_by None None None (Some f) e i x y =
      let m = most_few v.part v.polls c (length bs) few (fits v.part c (length bs) i) in
      absurd (some_none (sym y ∙ room_enough room (most v.part v.polls c (length bs)) (page_named c) (omega arith)))
  not_full_by None None None None e i x y =
      let m = most_few v.part v.polls c (length bs) few (fits v.part c (length bs) i) in
      (accepted_other v c rs, omega (arith, m, within_most v.part v.polls c (length bs) bs rs refl))

  not_full : (full_reply (outcome v room c (length bs) rs).reply ≡ false) × (length (call_cycles v room c bs rs) ≤ 5000)
  unfolding refusal
  not_full =
      not_full_by (state_fault v.part v.standing c) (argument_fault v.part c (length bs)) (record_fault v.part v.blocks c) (port_fault room (most v.part v.polls c (length bs)) (page_named c)) refl refl refl refl

-- ## A run

-- a chip has full room or none
full_or_none : (k : ModelChip) → ((means_of k).room ≡ 65535) ⊎ ((means_of k).room ≡ 0)
full_or_none k = by (has_room k)
  where
    by : (b : Bool) → (◌≡◌ {A = ℕ} (cond b 65535 0) 65535) ⊎ (◌≡◌ {A = ℕ} (cond b 65535 0) 0)
    by true = inl refl
    by false = inr refl

turn_not_full : (n : ℕ) (w : Where) (x : Turn) (room : ℕ) (a : turns.Answer) → n ≤ 1000 → x.room ≡ 65535 → Pinned n w x a → (full_answer a ≡ false) × (length x.cycles ≤ 5000)
turn_not_full n w x room (answered a) h e p =
    let d = p.1 in
    let q = not_full (view_at n w.standing x.before) x.room x.call x.bytes d.replies h (omega arith) in
    (ap full_reply d.answer ∙ q.0, omega (arith, q.1, ap length d.cycles))
turn_not_full n w x room not_offered h e p = (refl, omega (arith, ap length p.1))

pub never_full : (n : ℕ) (xs : List Turn) (w z : Where) → n ≤ 1000 → w.room ≡ 65535 → Rooms chips xs → Law n w xs z → NeverFull xs
never_full n [] w z h e r l = tt
never_full n (x ∷ []) w z h e r l =
    let t = l.1 in
    ((turn_not_full n w x l.0 x.answer h (t.room_before ∙ e) t.pinned).0, tt)
never_full n (x ∷ y ∷ ys) w z h e r l =
    let t = l.1 in
    let q = turn_not_full n w x l.0 x.answer h (t.room_before ∙ e) t.pinned in
    let m : l.0 ≡ 65535 = next_full l.0 y.room (length x.cycles) w.room r.1.0.0 r.1.0.1 l.2.1.room_before t.room_least q.1 e in
    (q.0, never_full n (y ∷ ys) (advanced w x l.0) z h m r.1 l.2)
  where
    next_full : (room before cycles start : ℕ) (k : ModelChip) → (means_of k).room ≡ before → before ≡ room → start ≤ room + cycles → cycles ≤ 5000 → start ≡ 65535 → room ≡ 65535
    next_full room before cycles start k i j u v s = ⊎_elim (λ g. omega (arith, g, i, j)) (λ g. absurd (omega (arith, g, i, j, u, v, s))) (full_or_none k)
