-- A poll on the bus: it ends whatever is busy.
use Rattle.std.proofs.Common.{◌≡◌, ℕ, zero, suc, ◌≤◌, Bool, true, false, cond, List, [], ◌∷◌, map, Some, refl, subst, arith, None}
use Rattle.flash.specs.declared.address.Row.{Row}
use Rattle.flash.specs.declared.opcode.Opcode.TheVariants as op
use Rattle.bus.specs.Acts.{in_chain}
use Rattle.bus.specs.Bus.{Reader, done}
use Rattle.bus.specs.States.{quiet, closed}
use Rattle.bus.specs.declared.act.Act.TheVariants as act
use Rattle.bus.specs.declared.state.Phase.TheVariants as phase
use Rattle.flash.specs.Statuses.{ready}
use Rattle.port.specs.Meanings.{gave}
use Rattle.commands.specs.Polls.{command, polled, taken, poll_cycles}
use Rattle.calls.specs.Afters.{asked, after_poll}
use Rattle.calls.proofs.Goes.{Runs, runs_none, runs_then, runs_to, runs_one, runs_plain}

module _ (r : Reader) (h : List ℕ) (m : r.bus.breaches ≤ 65535) where
  abbrev Ends : ℕ → List ℕ → Type 0
  Ends n rs = Runs (asked r) h (map gave (taken n rs)) (after_poll (polled n rs) r) h []

  still_busy : (s : ℕ) → ready s ≡ false → Runs (asked r) h (gave s ∷ []) (asked r) h []
  still_busy s e = runs_to (simp e) (runs_plain (asked r) h (gave s) (act.Status s) refl m refl)

  abbrev EndsBy : Bool → ℕ → ℕ → List ℕ → Type 0
  EndsBy q n s rs = Runs (asked r) h (map gave (s ∷ cond q [] (taken n rs))) (after_poll (cond q (Some s) (polled n rs)) r) h []

  ends_by : (n s : ℕ) (rs : List ℕ) (q : Bool) → ready s ≡ q → Ends n rs → EndsBy q n s rs
  ends_by n s rs true e k = runs_one (asked r) h (gave s) (act.Status s) refl
  ends_by n s rs false e k = runs_then (still_busy s e) k

  ends : (n : ℕ) (rs : List ℕ) → Ends n rs
  ends zero rs = runs_none (asked r) h
  ends (suc n) [] = runs_one (asked r) h (gave 0xFF) (act.Status 0xFF) refl
  ends (suc n) (s ∷ rs) = ends_by n s rs (ready s) refl (ends n rs)

  pub poll_runs : (n : ℕ) (rs : List ℕ) → quiet r.bus.phase ≡ true → Runs r h (poll_cycles n rs) (after_poll (polled n rs) r) h []
  poll_runs n rs q = runs_then (runs_plain r h (command op.ReadStatus) (act.Prepare phase.Status r.bus.register) refl m (simp q)) (ends n rs)

-- the status that ends a poll is ready
ready_by : (n s t : ℕ) (rs : List ℕ) (q : Bool) → ready s ≡ q → (polled n rs ≡ Some t → ready t ≡ true) → polled (suc n) (s ∷ rs) ≡ Some t → ready t ≡ true
ready_by n s t rs true e k i = let z : s ≡ t = grind (arith, e, i) in subst (λ x. ready x ≡ true) z e
ready_by n s t rs false e k i = k (simp e at i)

pub ends_ready : (n : ℕ) (rs : List ℕ) (t : ℕ) → polled n rs ≡ Some t → ready t ≡ true
ends_ready zero rs t e = let z : ◌≡◌ {A = ℕ} 0 1 = cc in absurd (omega arith)
ends_ready (suc n) [] t e = let z : 0xFF ≡ t = cc in subst (λ x. ready x ≡ true) z refl
ends_ready (suc n) (s ∷ rs) t e = ready_by n s t rs (ready s) refl (ends_ready n rs t) e

-- after it nothing is busy, and the reader is otherwise as it was
pub record Readied (r s : Reader) : Type 0 where
  pub idle : s.bus.busy ≡ None
  pub quiet : quiet s.bus.phase ≡ true
  pub part : s.bus.part ≡ r.bus.part
  pub breaches : s.bus.breaches ≤ 65535
  pub chain : (w : Row) → in_chain r.bus.chain w ≡ true → in_chain s.bus.chain w ≡ true
  pub closed : closed r.bus.chain ≡ true → closed s.bus.chain ≡ true

readied_by : (r : Reader) (s : ℕ) → ready s ≡ true → Readied r (done (asked r) (act.Status s))
readied_by r s e = record {
  idle = grind (arith, e);
  quiet = grind (arith, e);
  part = grind (arith, e);
  breaches = omega arith;
  chain = λ w i. grind (arith, e);
  closed = λ i. grind (arith, e);
}

pub readied : (r : Reader) (n : ℕ) (rs : List ℕ) (s : ℕ) → polled n rs ≡ Some s → Readied r (done (asked r) (act.Status s))
readied r n rs s e = readied_by r s (ends_ready n rs s e)
