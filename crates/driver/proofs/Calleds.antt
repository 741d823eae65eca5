-- A call that was turned away, and one that was let through.
use Rattle.std.proofs.Common.{◌≡◌, ◌≢◌, ℕ, ◌≤◌, true, ltb, List, [], length, is_some, Some, None, Ok, Option, sym, refl, ap, ◌∙◌, ⊎_elim, arith}
use Rattle.flash.specs.declared.address.Column.{Column}
use Rattle.flash.specs.declared.address.Row.{Row}
use Rattle.flash.specs.declared.cycle.Cycle.{Cycle}
use Rattle.flash.specs.declared.fault.Fault.{Fault}
use Rattle.flash.specs.declared.fault.Fault.TheVariants as fault
use Rattle.flash.specs.declared.page.Page.{Page}
use Rattle.flash.specs.declared.part.Part.{Part}
use Rattle.bus.specs.States.{blocks_in}
use Rattle.bus.specs.declared.act.Confirm.{Confirm}
use Rattle.bus.specs.declared.act.Confirm.TheVariants as confirm
use Rattle.port.specs.declared.port.Port.{Ghosts}
use Rattle.commands.specs.Polls.{polled}
use Rattle.commands.specs.Sent.{Ran, Cut, Went, TimedOut, Stopped}
use Rattle.commands.proofs.Runs.{ran_none}
use Rattle.record.specs.Picks.{picked}
use Rattle.record.specs.Judgements.{admitted, or_else}
use Rattle.calls.specs.Table.{chain_page, cycles, most}
use Rattle.calls.specs.declared.call.Call.{Call}
use Rattle.calls.specs.declared.call.Call.TheVariants as call
use Rattle.calls.proofs.Lengths.{within_most}
use Rattle.driver.specs.Views.{View, part_or}
use Rattle.driver.specs.Refusals.{refusal, argument_fault, block_fault, page_fault}
use Rattle.driver.specs.Outcomes.{Reply, block, refused, Outcome, added_cycles, chain_call, accepted}
use Rattle.driver.specs.Called.{Did, Called, view_of}
use Rattle.driver.specs.declared.session.Session.{Session}
use Rattle.driver.proofs.Admits.{let_through, pick_free, or_none, unless_none}

pub some_is : (o : Option ℕ) → is_some o ≡ true → (s : ℕ) × (o ≡ Some s)
some_is None e = absurd (grind arith)
some_is (Some s) e = (s, refl)

-- what is known of a call that was let through
pub record Passed {X : Type 0} (p : Ghosts X) (s : Session X) (c : Call) (bs : List ℕ) : Type 0 where
  pub accepts : refusal (view_of s) (p.meaning s.port).room c (length bs) ≡ None
  pub arguments : argument_fault s.state.part c (length bs) ≡ None
  pub room_left : most s.state.part s.state.polls c (length bs) ≤ (p.meaning s.port).room

module _ {X : Type 0} (p : Ghosts X) (s : Session X) (c : Call) (bs : List ℕ) where
  pub passed : {u : Unit} → Ok u ≡ admitted (refusal (view_of s) (p.meaning s.port).room c (length bs)) → Passed p s c bs
  passed e =
      let k = let_through (view_of s) (p.meaning s.port).room c (length bs) e in
      record { accepts = k.0; arguments = k.1; room_left = k.2 }

module _ {X : Type 0} {p : Ghosts X} {s : Session X} {c : Call} {bs : List ℕ} (k : Passed p s c bs) where
  pub called_accepted : (rs : List ℕ) {a : Reply} {t : Session X} → a ≡ (accepted (view_of s) c rs).reply → view_of t ≡ (accepted (view_of s) c rs).view
      → Ran p (cycles s.state.part s.state.polls c bs rs) s.port t.port → Called p c bs a s t
  called_accepted rs i j r =
      let z = k.accepts in
      record { replies = rs; answers = rw z i; views = rw z j; ran = rw z r }

  -- for some replies, in a record
  pub called_did : {a : Reply} {t : Session X} → Did p (accepted (view_of s) c) (cycles s.state.part s.state.polls c bs) a (view_of t) s.port t.port → Called p c bs a s t
  called_did d = called_accepted d.replies d.answers d.views d.ran

  -- the room that it was let through with is enough
  pub enough : (rs : List ℕ) → length (cycles s.state.part s.state.polls c bs rs) ≤ (p.meaning s.port).room
  enough rs = omega (arith, within_most s.state.part s.state.polls c (length bs) bs rs refl, k.room_left)

  pub never_cut : (rs : List ℕ) {cs : List Cycle} {b : X} → cs ≡ cycles s.state.part s.state.polls c bs rs → Cut p cs s.port b → ⊥
  never_cut rs i t = omega (arith, t.short, ap length i, enough rs)

-- a pick is never turned away
pub called_pick : {X : Type 0} (p : Ghosts X) (s : Session X) (b : ℕ) {r : Option ℕ} → r ≡ picked s.state.blocks (blocks_in s.state.part) b → Called p (call.Pick b) [] (block r) s s
called_pick p s b e =
    let z = pick_free (view_of s) (p.meaning s.port).room b in
    record { replies = []; answers = rw z (ap block e); views = rw z; ran = rw z (ran_none s.port) }

-- ## A poll

-- with room for all its cycles, a sequence with a poll stops only without a ready status
pub only_late : {X : Type 0} {p : Ghosts X} {n : ℕ} {at : Option Page} {cs : List ℕ → List Cycle} {f : Fault} {a b : X}
    → ((rs : List ℕ) → length (cs rs) ≤ (p.meaning a).room) → Stopped p n at cs f a b → (f ≡ fault.Timeout at) × TimedOut p n cs a b
only_late {p = p} {a = a} h s = ⊎_elim (λ t. t) (λ t. absurd (omega (arith, h t.1.replies, t.1.cut.short))) s

-- what it then comes to, if that is a function of the status that ends the poll
module _ {X : Type 0} {p : Ghosts X} {n : ℕ} (by : List ℕ → Option ℕ → Outcome) {cs : List ℕ → List Cycle} {v : View} {a b : X} where
  pub did_late : {at page : Option Page} {f : Fault} → ((rs : List ℕ) → length (cs rs) ≤ (p.meaning a).room) → at ≡ page
      → ((rs : List ℕ) → refused (fault.Timeout page) ≡ (by rs None).reply) → ((rs : List ℕ) → v ≡ (by rs None).view)
      → Stopped p n at cs f a b → Did p (λ rs. by rs (polled n rs)) cs (refused f) v a b
  did_late h e i j s =
      let t = only_late h s in
      let rs = t.1.replies in
      record {
        replies = rs;
        answers = ap refused t.0 ∙ ap (λ x. refused (fault.Timeout x)) e ∙ i rs ∙ ap (λ o. (by rs o).reply) (sym t.1.never);
        views = j rs ∙ ap (λ o. (by rs o).view) (sym t.1.never);
        ran = t.1.ran;
      }

  pub did_ready : {G : List ℕ → Type 0} {r : Reply} (w : Went p n cs G a b) → ((s : ℕ) → r ≡ (by w.replies (Some s)).reply) → ((s : ℕ) → v ≡ (by w.replies (Some s)).view)
      → Did p (λ rs. by rs (polled n rs)) cs r v a b
  did_ready w i j =
      let o = some_is (polled n w.replies) w.ready in
      record {
        replies = w.replies;
        answers = i o.0 ∙ ap (λ x. (by w.replies x).reply) (sym o.1);
        views = j o.0 ∙ ap (λ x. (by w.replies x).view) (sym o.1);
        ran = w.ran;
      }

-- a part that has a block is known
pub part_known : (o : Option Part) (b : ℕ) {q : Part} → block_fault o b ≡ None → q ≡ part_or o → Some q ≡ o
part_known None b e i = absurd (let h : ltb b 0 ≡ true = unless_none (ltb b 0) (fault.NoSuchBlock b) e in grind arith)
part_known (Some x) b e i = ap Some i

-- or a page, whatever else is asked
pub page_known : (o : Option Part) (g : Page) (x : Option Fault) {q : Part} → or_else (page_fault o 64 g) x ≡ None → q ≡ part_or o → Some q ≡ o
page_known o g x e i = part_known o g.block (or_none (block_fault o g.block) _ (or_none (page_fault o 64 g) x e).0).0 i

-- the cycles at a part and a row that are known by equations
pub both : (f : Option Part → Row → List Cycle) {o q : Option Part} {w v : Row} → o ≡ q → w ≡ v → f o w ≡ f q v
both f {o} {q} {w} {v} i j = ap (λ x. f x w) i ∙ ap (λ y. f q y) j

-- ## A further page of a chain

-- its call by its confirm, which is no copy's
module _ {X : Type 0} {p : Ghosts X} {s : Session X} (n g : ℕ) (c : Column) {bs : List ℕ} where
  pub chain_known : (f : Confirm) → Passed p s (chain_call f n g c) bs → {q : Part} → q ≡ part_or s.state.part → Some q ≡ s.state.part
  chain_known confirm.Program k i = page_known s.state.part (chain_page n g) _ k.arguments i
  chain_known confirm.Cache k i = page_known s.state.part (chain_page n g) _ k.arguments i
  chain_known confirm.Copy k i = page_known s.state.part (chain_page n g) _ k.arguments i

  pub chain_room : (f : Confirm) → f ≢ confirm.Copy → Passed p s (chain_call f n g c) bs → (rs : List ℕ)
      → length (added_cycles f s.state (chain_page n g) c bs rs) ≤ (p.meaning s.port).room
  chain_room confirm.Program h k = enough k
  chain_room confirm.Cache h k = enough k
  chain_room confirm.Copy h k = absurd (h refl)
