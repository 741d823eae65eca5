-- A run, turn by turn.
use Rattle.std.proofs.Common.{◌≡◌, ℕ, ◌+◌, true, false, List, [], ◌∷◌, ◌++◌, length, Some, None, Option, sym, refl, ap, ◌∙◌, subst, append_assoc, append-nil, arith}
use mathlib.Core.List.{foldl}
use Rattle.flash.specs.Parts.{identified}
use Rattle.flash.specs.declared.address.Column.{Column}
use Rattle.flash.specs.declared.fault.Fault.{Fault}
use Rattle.flash.specs.declared.page.Page.{Page}
use Rattle.flash.specs.declared.part.Part.{Part}
use Rattle.bus.specs.Bus.{Reader, steps}
use Rattle.port.specs.declared.port.Port.{Ghosts}
use Rattle.commands.specs.Polls.{polled, left, first_of}
use Rattle.calls.specs.Table.{slip_page, chain_page}
use Rattle.calls.specs.declared.call.Call.{Call}
use Rattle.calls.specs.declared.call.Call.TheVariants as call
use Rattle.driver.specs.Called.{view_of, Called}
use Rattle.driver.specs.Laws.{Exact, given, returned, working, stands_after}
use Rattle.driver.specs.Outcomes.{Reply, Outcome, named, identified_by, looked, read_by, next_by, last_by, copied_by, settled_by, reset_by, accepted, outcome_at, outcome, call_cycles}
use Rattle.driver.specs.Refusals.{refusal}
use Rattle.driver.specs.Turns.{offers, answered, not_offered, Turn, Where, view_at, advanced, Lawful, Law, cycles_of}
use Rattle.driver.specs.Views.{View}
use Rattle.driver.specs.declared.session.Session.{Session}
use Rattle.driver.proofs.Balances.{out_of, working_is, stands_after_lem, slips_move}
use Rattle.driver.proofs.Holds.{Held}
use Rattle.driver.proofs.Judges.{exact}
use Rattle.driver.proofs.Keeps.{call_kept}

-- ## The poll count stays

module _ (v : View) where
  abbrev SamePolls : Outcome → Type 0
  SamePolls x = x.view.polls ≡ v.polls

  named_polls : (bs : List ℕ) (o : Option Part) → SamePolls (named v bs o)
  named_polls bs None = refl
  named_polls bs (Some p) = refl

  identified_polls : (bs : List ℕ) (x : Option ℕ) → SamePolls (identified_by v bs x)
  identified_polls bs None = refl
  identified_polls bs (Some s) = named_polls bs (identified bs)

  looked_polls : (p : Page) (bs : List ℕ) (x : Option ℕ) → SamePolls (looked v p bs x)
  looked_polls p bs None = refl
  looked_polls p bs (Some s) = refl

  read_polls : (p : Page) (c : Column) (bs : List ℕ) (x : Option ℕ) → SamePolls (read_by v p c bs x)
  read_polls p c bs None = refl
  read_polls p c bs (Some s) = refl

  next_polls : (p : Page) (x : Option ℕ) → SamePolls (next_by v p x)
  next_polls p None = refl
  next_polls p (Some s) = refl

  last_polls : (p : Page) (x : Option ℕ) → SamePolls (last_by v p x)
  last_polls p None = refl
  last_polls p (Some s) = refl

  copied_polls : (p q : Page) (x : Option ℕ) → SamePolls (copied_by v p q x)
  copied_polls p q None = refl
  copied_polls p q (Some s) = refl

  settled_polls : (p : Page) (x : Option ℕ) → SamePolls (settled_by v p x)
  settled_polls p None = refl
  settled_polls p (Some s) = refl

  reset_polls : (p : Option Page) (x : Option ℕ) → SamePolls (reset_by v p x)
  reset_polls p None = refl
  reset_polls p (Some s) = refl

  accepted_polls : (c : Call) (rs : List ℕ) → SamePolls (accepted v c rs)
  accepted_polls call.Identify rs = identified_polls (first_of 5 (left v.polls rs)) (polled v.polls rs)
  accepted_polls (call.Look p) rs = looked_polls p (first_of 1 (left v.polls rs)) (polled v.polls rs)
  accepted_polls call.Close rs = refl
  accepted_polls (call.Read p c len) rs = read_polls p c (first_of len (left v.polls rs)) (polled v.polls rs)
  accepted_polls (call.Erase b) rs = refl
  accepted_polls (call.Program p c) rs = refl
  accepted_polls (call.CacheFirst p c) rs = refl
  accepted_polls (call.CacheNext n g c) rs = next_polls (chain_page n g) (polled v.polls rs)
  accepted_polls (call.CacheLast n g c) rs = last_polls (chain_page n g) (polled v.polls rs)
  accepted_polls (call.Copy p q) rs = copied_polls p q (polled v.polls rs)
  accepted_polls (call.Settle n) rs = settled_polls (slip_page n) (polled v.polls rs)
  accepted_polls (call.Abandon n) rs = reset_polls (Some (slip_page n)) (polled v.polls rs)
  accepted_polls call.Reset rs = reset_polls None (polled v.polls rs)
  accepted_polls (call.Pick b) rs = refl
  accepted_polls (call.Record b) rs = refl

  polls_at : (o : Option Fault) (c : Call) (rs : List ℕ) → SamePolls (outcome_at o v c rs)
  polls_at None c rs = accepted_polls c rs
  polls_at (Some f) c rs = refl

-- ## One turn

-- a session whose view is the reader's, at a place of a run
pub record Stands {X : Type 0} (p : Ghosts X) (n : ℕ) (w : Where) (s : Session X) : Type 0 where
  pub reads : (p.meaning s.port).reader ≡ w.reader
  pub rooms : (p.meaning s.port).room ≡ w.room
  pub held : Held (view_of s) w.reader
  pub polls : (view_of s).polls ≡ n
  pub stands : (view_of s).standing ≡ w.standing
  pub slips : w.given ≡ w.returned + working w.reader

-- the view is read off the reader
view_is : {X : Type 0} {p : Ghosts X} (n : ℕ) (w : Where) (s : Session X) → Stands p n w s → view_at n w.standing w.reader ≡ view_of s
view_is n w s k =
    ap (λ (r : Reader). view_at n w.standing r) k.held.is
    ∙ (ap (λ m. record { part = (view_of s).part; polls = m; blocks = (view_of s).blocks; standing = w.standing }) (sym k.polls)
    ∙ ap (λ t. record { part = (view_of s).part; polls = (view_of s).polls; blocks = (view_of s).blocks; standing = t }) (sym k.stands))

-- a turn, and the session after it
pub record GoesOn {X : Type 0} (p : Ghosts X) (n : ℕ) (w : Where) (x : Turn) (s t : Session X) : Type 0 where
  pub lawful : Lawful n w x (p.meaning t.port).room
  pub stands : Stands p n (advanced w x (p.meaning t.port).room) t
  pub trails : (p.meaning t.port).trail ≡ foldl p.moves (p.meaning s.port).trail x.cycles

module _ {X : Type 0} {p : Ghosts X} (n : ℕ) (w : Where) (s t : Session X) (k : Stands p n w s) (c : Call) (bs : List ℕ) where
  -- a call that is offered
  module _ (a : Reply) (d : Called p c bs a s t) where
    abbrev room : ℕ
    room = (p.meaning s.port).room

    abbrev after_reader : Reader
    after_reader = (p.meaning t.port).reader

    unfoldable pub turned : Turn
    turned = record {
      call = c;
      bytes = bs;
      answer = answered a;
      cycles = call_cycles (view_of s) (p.meaning s.port).room c bs d.replies;
      before = w.reader;
      after = (p.meaning t.port).reader;
      room = w.room;
    }

    same : view_at n w.standing w.reader ≡ view_of s
    same = view_is n w s k

    reads_after : (p.meaning t.port).reader ≡ steps w.reader (call_cycles (view_of s) (p.meaning s.port).room c bs d.replies)
    reads_after = d.ran.took.reads ∙ ap (λ r. steps r (call_cycles (view_of s) (p.meaning s.port).room c bs d.replies)) k.reads

    held_after : Held (view_of t) (p.meaning t.port).reader
    held_after =
        subst (λ r. Held (view_of t) r) (sym reads_after)
        (subst (λ v. Held v (steps w.reader (call_cycles (view_of s) (p.meaning s.port).room c bs d.replies))) (sym d.views)
        (call_kept (view_of s) (p.meaning s.port).room w.reader c bs d.replies k.held))

    stands_as : (view_of t).standing ≡ stands_after w.standing c a
    stands_as =
        ap (λ (v : View). v.standing) d.views
        ∙ (stands_after_lem (view_of s) (p.meaning s.port).room c (length bs) d.replies
        ∙ (ap (λ x. stands_after x c (outcome (view_of s) (p.meaning s.port).room c (length bs) d.replies).reply) k.stands ∙ ap (λ x. stands_after w.standing c x) (sym d.answers)))

    slips_as : w.given + given c a ≡ w.returned + returned c a + working (p.meaning t.port).reader
    slips_as =
        let m : out_of (view_of s).standing + given c a ≡ returned c a + out_of (view_of t).standing =
        subst (λ x. out_of (view_of s).standing + given c x ≡ returned c x + out_of (view_of t).standing) (sym d.answers)
        (slips_move (view_of s) (p.meaning s.port).room c (length bs) d.replies ∙ ap (λ (v : View). returned c (outcome (view_of s) (p.meaning s.port).room c (length bs) d.replies).reply + out_of v.standing) (sym d.views)) in
        omega (arith, m, k.slips, working_is (view_of s) w.reader k.held, working_is (view_of t) (p.meaning t.port).reader held_after)

    pub offered_goes : offers w.stage c ≡ true → GoesOn p n w turned s t
    unfolding turned
    offered_goes o = record {
      lawful = record {
        begins = refl;
        room_before = refl;
        pinned = (
          o,
          record {
            replies = d.replies;
            answer = d.answers ∙ (ap (λ v. (outcome v (p.meaning s.port).room c (length bs) d.replies).reply) (sym same) ∙ ap (λ m. (outcome (view_at n w.standing w.reader) m c (length bs) d.replies).reply) k.rooms);
            cycles = ap (λ v. call_cycles v (p.meaning s.port).room c bs d.replies) (sym same) ∙ ap (λ m. call_cycles (view_at n w.standing w.reader) m c bs d.replies) k.rooms;
          },
          subst (λ x. Exact c bs x w.reader) (sym d.answers) (exact (view_of s) (p.meaning s.port).room w.reader c bs d.replies k.held),
        );
        stepped = reads_after;
        clean = ap (λ (r : Reader). r.bus.breaches) held_after.is;
        slips = slips_as;
        room_least = omega (arith, d.ran.took.least, k.rooms);
        room_most = omega (arith, d.ran.took.most, k.rooms);
      };
      stands = record {
        reads = refl;
        rooms = refl;
        held = held_after;
        polls = ap (λ (v : View). v.polls) d.views ∙ (polls_at (view_of s) (refusal (view_of s) (p.meaning s.port).room c (length bs)) c d.replies ∙ k.polls);
        stands = stands_as;
        slips = slips_as;
      };
      trails = d.ran.took.trails;
    }

-- a call that is not offered does nothing
module _ {X : Type 0} {p : Ghosts X} (n : ℕ) (w : Where) (s : Session X) (k : Stands p n w s) (c : Call) (bs : List ℕ) where
  unfoldable pub passed_over : Turn
  passed_over = record { call = c; bytes = bs; answer = not_offered; cycles = []; before = w.reader; after = w.reader; room = w.room }

  pub not_offered_goes : offers w.stage c ≡ false → GoesOn p n w passed_over s s
  unfolding passed_over
  not_offered_goes o = record {
    lawful = record {
      begins = refl;
      room_before = refl;
      pinned = (o, refl);
      stepped = refl;
      clean = ap (λ (r : Reader). r.bus.breaches) k.held.is;
      slips = omega (arith, k.slips);
      room_least = omega (arith, k.rooms);
      room_most = omega (arith, k.rooms);
    };
    stands = record {
      reads = k.reads;
      rooms = refl;
      held = k.held;
      polls = k.polls;
      stands = k.stands;
      slips = omega (arith, k.slips);
    };
    trails = refl;
  }

-- ## Many turns

pub law_push : (n : ℕ) (xs : List Turn) (w y : Where) (x : Turn) (room : ℕ) → Law n w xs y → Lawful n y x room → Law n w (xs ++ x ∷ []) (advanced y x room)
law_push n [] w y x room e l = (room, subst (λ z. Lawful n z x room) e l, ap (λ z. advanced z x room) e)
law_push n (q ∷ xs) w y x room e l = (e.0, e.1, law_push n xs (advanced w q e.0) y x room e.2 l)

pub cycles_push : (xs : List Turn) (x : Turn) → cycles_of (xs ++ x ∷ []) ≡ cycles_of xs ++ x.cycles
cycles_push [] x = append-nil x.cycles
cycles_push (q ∷ xs) x = ap (λ cs. q.cycles ++ cs) (cycles_push xs x) ∙ sym (append_assoc q.cycles (cycles_of xs) x.cycles)
