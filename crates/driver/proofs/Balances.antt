-- Slips given out and taken back, and what stands after a call, told by calls and answers.
use Rattle.std.proofs.Common.{◌≡◌, ℕ, ◌+◌, ◌<◌, ◌≤◌, true, false, not, eqb, List, is_some, Some, None, Option, refl, ap, ◌∙◌, arith}
use Rattle.flash.specs.Statuses.{verdict_of}
use Rattle.flash.specs.declared.address.Column.{Column}
use Rattle.flash.specs.declared.fault.Fault.{Fault}
use Rattle.flash.specs.declared.page.Page.{Page}
use Rattle.flash.specs.declared.part.Part.{Part}
use Rattle.bus.specs.Bus.{Reader}
use Rattle.bus.specs.declared.state.Phase.{Phase}
use Rattle.bus.specs.declared.state.Work.{Work}
use Rattle.bus.specs.declared.state.PageRead.{PageRead}
use Rattle.calls.specs.Table.{slip_page, chain_page}
use Rattle.calls.specs.declared.call.Call.{Call}
use Rattle.calls.specs.declared.call.Call.TheVariants as call
use Rattle.driver.specs.Views.{View, block_page, erase_slip, program_slip, chain_slip, slip_out, block_at_work, is_stuck}
use Rattle.driver.specs.Views as views
use Rattle.driver.specs.Refusals.{free_fault, reset_fault, is_out, state_fault, refusal}
use Rattle.driver.specs.declared.standing.Standing.{Standing}
use Rattle.driver.specs.declared.standing.Standing.TheVariants as standing
use Rattle.flash.specs.Faults.{number_of}
use Rattle.flash.specs.Parts.{identified}
use Rattle.flash.specs.declared.status.Verdict.{Verdict}
use Rattle.flash.specs.declared.status.Verdict.TheVariants as verdict
use Rattle.commands.specs.Polls.{polled, left, first_of}
use Rattle.driver.specs.Laws.{one, given, returned, working, stands_after}
use Rattle.driver.specs.Outcomes.{Reply, refused, Outcome, named, identified_by, looked, read_by, next_by, last_by, copied_by, verdict_reply, settled_by, reset_by, accepted, outcome_at, outcome}
use Rattle.driver.proofs.Holds.{reader_at, Works, Held, some_none, or_none, free_ready, slip_out_lem}
use Rattle.driver.proofs.Reasons.{of_reason, refusal_within}

abbrev pub out_of : Standing → ℕ
out_of s = one (is_some (slip_out s))

-- the reader has work under way exactly where a slip is out
working_by : (v : View) (t : Standing) (h : Phase) (b : Option Work) (g : Option PageRead) (k : Option ℕ) → Works v.part t b k → working (reader_at v h b g k) ≡ out_of t
working_by v standing.Ready h b g k w = rw (w.0, w.1) refl
working_by v standing.Stuck h b g k w = rw w.1 (simp w.0)
working_by v (standing.Erasing x) h b g k w = rw w.0 refl
working_by v (standing.Programming p) h b g k w = rw w refl
working_by v (standing.Chaining p) h b g k w = rw (w.0, w.1) refl

pub working_is : (v : View) (r : Reader) → Held v r → working r ≡ out_of v.standing
working_is v r k = ap working k.is ∙ working_by v v.standing k.phase k.busy k.register k.chain k.works

-- ## A call refused before the chip: no slip moves, and all stands

not_number : (f : Fault) (n : ℕ) → number_of f ≤ 13 → 13 < n → eqb (number_of f) n ≡ false
not_number f n l h = grind (arith, l, h)

refused_stays : (s : Standing) (c : Call) (f : Fault) → number_of f ≤ 13 → s ≡ stands_after s c (refused f)
refused_stays s c f l =
    let a = not_number f 14 l (omega arith) in
    let b = not_number f 16 l (omega arith) in
    let d = not_number f 17 l (omega arith) in
    by c a b d
  where
    by : (c : Call) → eqb (number_of f) 14 ≡ false → eqb (number_of f) 16 ≡ false → eqb (number_of f) 17 ≡ false → s ≡ stands_after s c (refused f)
    by call.Identify a b d = simp a
    by (call.Look p) a b d = simp a
    by call.Close a b d = refl
    by (call.Read p c len) a b d = simp a
    by (call.Erase x) a b d = refl
    by (call.Program p c) a b d = refl
    by (call.CacheFirst p c) a b d = refl
    by (call.CacheNext n g c) a b d = refl
    by (call.CacheLast n g c) a b d = refl
    by (call.Copy p q) a b d = simp a
    by (call.Settle n) a b d = simp (b, d)
    by (call.Abandon n) a b d = simp a
    by call.Reset a b d = simp a
    by (call.Pick x) a b d = refl
    by (call.Record x) a b d = refl

refused_balance : (n : ℕ) (c : Call) (f : Fault) → number_of f ≤ 13 → n + given c (refused f) ≡ returned c (refused f) + n
refused_balance n c f l =
    let a = not_number f 14 l (omega arith) in
    let b = not_number f 16 l (omega arith) in
    let d = not_number f 17 l (omega arith) in
    by c a b d
  where
    by : (c : Call) → eqb (number_of f) 14 ≡ false → eqb (number_of f) 16 ≡ false → eqb (number_of f) 17 ≡ false → n + given c (refused f) ≡ returned c (refused f) + n
    by call.Identify a b d = omega arith
    by (call.Look p) a b d = omega arith
    by call.Close a b d = omega arith
    by (call.Read p c len) a b d = omega arith
    by (call.Erase x) a b d = omega arith
    by (call.Program p c) a b d = omega arith
    by (call.CacheFirst p c) a b d = omega arith
    by (call.CacheNext m g c) a b d = omega arith
    by (call.CacheLast m g c) a b d = omega arith
    by (call.Copy p q) a b d = omega arith
    by (call.Settle m) a b d = simp (b, d) (omega arith)
    by (call.Abandon m) a b d = simp a (omega arith)
    by call.Reset a b d = omega arith
    by (call.Pick x) a b d = omega arith
    by (call.Record x) a b d = omega arith

-- ## A call that reached the chip

-- what stands and what slips moved, for an answer and the standing after it
record Moved (s : Standing) (c : Call) (a : Reply) (t : Standing) : Type 0 where
  stands : t ≡ stands_after s c a
  slips : out_of s + given c a ≡ returned c a + out_of t

abbrev Moves : View → Call → Outcome → Type 0
Moves v c x = Moved v.standing c x.reply x.view.standing

module _ (v : View) (ready : v.standing ≡ standing.Ready) where
  identify_moves : (bs : List ℕ) (x : Option ℕ) → Moves v call.Identify (identified_by v bs x)
  identify_moves bs None = rw ready (record { stands = refl; slips = refl })
  identify_moves bs (Some s) = by (identified bs)
    where
      by : (o : Option Part) → Moves v call.Identify (named v bs o)
      by None = rw ready (record { stands = refl; slips = refl })
      by (Some p) = rw ready (record { stands = refl; slips = refl })

  look_moves : (p : Page) (bs : List ℕ) (x : Option ℕ) → Moves v (call.Look p) (looked v p bs x)
  look_moves p bs None = rw ready (record { stands = refl; slips = refl })
  look_moves p bs (Some s) = rw ready (record { stands = refl; slips = refl })

  read_moves : (p : Page) (c : Column) (len : ℕ) (bs : List ℕ) (x : Option ℕ) → Moves v (call.Read p c len) (read_by v p c bs x)
  read_moves p c len bs None = rw ready (record { stands = refl; slips = refl })
  read_moves p c len bs (Some s) = rw ready (record { stands = refl; slips = refl })

  copy_moves : (p q : Page) (x : Option ℕ) → Moves v (call.Copy p q) (copied_by v p q x)
  copy_moves p q None = rw ready (record { stands = refl; slips = refl })
  copy_moves p q (Some s) = rw ready (record { stands = refl; slips = refl })

-- a slip is out
slip_is_out : (s : Standing) (n : ℕ) → is_out (slip_out s) n ≡ true → out_of s ≡ 1
slip_is_out s n e = grind (arith, e)

next_moves : (v : View) (n g : ℕ) (c : Column) (x : Option ℕ) → out_of v.standing ≡ 1 → Moves v (call.CacheNext n g c) (next_by v (chain_page n g) x)
next_moves v n g c None o = record { stands = refl; slips = omega arith }
next_moves v n g c (Some s) o = record { stands = refl; slips = omega (arith, o) }

last_moves : (v : View) (n g : ℕ) (c : Column) (x : Option ℕ) → out_of v.standing ≡ 1 → Moves v (call.CacheLast n g c) (last_by v (chain_page n g) x)
last_moves v n g c None o = record { stands = refl; slips = omega arith }
last_moves v n g c (Some s) o = record { stands = refl; slips = omega (arith, o) }

settle_moves : (v : View) (n : ℕ) (x : Option ℕ) → out_of v.standing ≡ 1 → Moves v (call.Settle n) (settled_by v (slip_page n) x)
settle_moves v n None o = record { stands = refl; slips = omega arith }
settle_moves v n (Some s) o = by (verdict_of s)
  where
    by : (y : Verdict) → Moved v.standing (call.Settle n) (verdict_reply (slip_page n) y) standing.Ready
    by verdict.Good = record { stands = refl; slips = omega (arith, o) }
    by verdict.Failed = record { stands = refl; slips = omega (arith, o) }
    by verdict.Protected = record { stands = refl; slips = omega (arith, o) }

abandon_moves : (v : View) (n : ℕ) (x : Option ℕ) → out_of v.standing ≡ 1 → Moves v (call.Abandon n) (reset_by v (Some (slip_page n)) x)
abandon_moves v n None o = record { stands = refl; slips = omega (arith, o) }
abandon_moves v n (Some s) o = record { stands = refl; slips = omega (arith, o) }

reset_out : (s : Standing) → reset_fault s ≡ None → out_of s ≡ 0
reset_out standing.Ready e = refl
reset_out standing.Stuck e = refl
reset_out (standing.Erasing b) e = absurd (some_none e)
reset_out (standing.Programming p) e = absurd (some_none e)
reset_out (standing.Chaining p) e = absurd (some_none e)

reset_moves : (v : View) (x : Option ℕ) → out_of v.standing ≡ 0 → Moves v call.Reset (reset_by v None x)
reset_moves v None o = record { stands = refl; slips = omega (arith, o) }
reset_moves v (Some s) o = record { stands = refl; slips = omega (arith, o) }

accepted_moves : (v : View) (c : Call) (rs : List ℕ) → state_fault v.part v.standing c ≡ None → Moves v c (accepted v c rs)
accepted_moves v call.Identify rs e = identify_moves v (free_ready v.standing (or_none (free_fault v.standing) _ e).0) (first_of 5 (left v.polls rs)) (polled v.polls rs)
accepted_moves v (call.Look p) rs e = look_moves v (free_ready v.standing e) p (first_of 1 (left v.polls rs)) (polled v.polls rs)
accepted_moves v call.Close rs e = record { stands = refl; slips = omega arith }
accepted_moves v (call.Read p c len) rs e = read_moves v (free_ready v.standing e) p c len (first_of len (left v.polls rs)) (polled v.polls rs)
accepted_moves v (call.Erase b) rs e = record { stands = refl; slips = ap (λ s. out_of s + 1) (free_ready v.standing e) }
accepted_moves v (call.Program p c) rs e = record { stands = refl; slips = ap (λ s. out_of s + 1) (free_ready v.standing e) }
accepted_moves v (call.CacheFirst p c) rs e = record { stands = refl; slips = ap (λ s. out_of s + 1) (free_ready v.standing e) }
accepted_moves v (call.CacheNext n g c) rs e = next_moves v n g c (polled v.polls rs) (slip_is_out v.standing n (slip_out_lem v.standing n (views.in_chain v.standing) e).0)
accepted_moves v (call.CacheLast n g c) rs e = last_moves v n g c (polled v.polls rs) (slip_is_out v.standing n (slip_out_lem v.standing n (views.in_chain v.standing) e).0)
accepted_moves v (call.Copy p q) rs e = copy_moves v (free_ready v.standing e) p q (polled v.polls rs)
accepted_moves v (call.Settle n) rs e = settle_moves v n (polled v.polls rs) (slip_is_out v.standing n (slip_out_lem v.standing n (not (views.in_chain v.standing)) e).0)
accepted_moves v (call.Abandon n) rs e = abandon_moves v n (polled v.polls rs) (slip_is_out v.standing n (slip_out_lem v.standing n true e).0)
accepted_moves v call.Reset rs e = reset_moves v (polled v.polls rs) (reset_out v.standing e)
accepted_moves v (call.Pick b) rs e = record { stands = refl; slips = omega arith }
accepted_moves v (call.Record b) rs e = record { stands = refl; slips = omega arith }

moves_at : (o : Option Fault) (v : View) (room : ℕ) (c : Call) (z : ℕ) (rs : List ℕ) → refusal v room c z ≡ o → Moves v c (outcome_at o v c rs)
unfolding refusal
moves_at (Some f) v room c z rs e = let l = (of_reason 1 13 (refusal_within v room c z) e).1 in record { stands = refused_stays v.standing c f l; slips = refused_balance (out_of v.standing) c f l }
moves_at None v room c z rs e = accepted_moves v c rs (or_none (state_fault v.part v.standing c) _ e).0

module _ (v : View) (room : ℕ) (c : Call) (z : ℕ) (rs : List ℕ) where
  -- what stands after a call is told by the call and its answer
  pub stands_after_lem : (outcome v room c z rs).view.standing ≡ stands_after v.standing c (outcome v room c z rs).reply
  stands_after_lem = (moves_at (refusal v room c z) v room c z rs refl).stands

  pub slips_move : out_of v.standing + given c (outcome v room c z rs).reply ≡ returned c (outcome v room c z rs).reply + out_of (outcome v room c z rs).view.standing
  slips_move = (moves_at (refusal v room c z) v room c z rs refl).slips
