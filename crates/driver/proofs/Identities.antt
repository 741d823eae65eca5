-- A reset, and then the identity.
use Rattle.std.proofs.Common.{◌≡◌, ℕ, true, List, [], ◌∷◌, ◌++◌, map, length, is_some, Option, sym, ap, ◌∙◌}
use Rattle.flash.specs.Parts.{identified}
use Rattle.flash.specs.declared.cycle.Cycle.{Cycle}
use Rattle.flash.specs.declared.fault.Fault.{Fault}
use Rattle.flash.specs.declared.opcode.Opcode.TheVariants as op
use Rattle.flash.specs.declared.page.Page.{Page}
use Rattle.flash.specs.declared.part.Part.{Part}
use Rattle.port.specs.Meanings.{gave}
use Rattle.port.specs.declared.port.Port.{Ghosts}
use Rattle.commands.specs.Polls.{command, polled, taken, left, first_of}
use Rattle.commands.specs.Sequences.{reset_cycles, identity_cycles}
use Rattle.commands.specs.Sent.{Ran, Short, Went, Stopped}
use Rattle.commands.proofs.Polls.{same_poll, first_all}
use Rattle.commands.proofs.Runs.{ran_as, ran_append, cut_later, stopped_before}
use Rattle.calls.specs.Table.{once_ready, cycles}
use Rattle.calls.specs.declared.call.Call.TheVariants as call
use Rattle.driver.specs.Outcomes.{Reply, named, identified_by}
use Rattle.driver.specs.Called.{Called, view_of}
use Rattle.driver.specs.declared.session.Session.{Session}
use Rattle.driver.proofs.Calleds.{Passed, called_accepted, never_cut, some_is}
use Rattle.driver.proofs.Follows.{once_ready_lem}

module _ (o : Option Part) (n : ℕ) where
  -- the replies of the poll, and then those of the identity
  identity_whole : (rs ys : List ℕ) → is_some (polled n rs) ≡ true → reset_cycles n rs ++ identity_cycles ys ≡ cycles o n call.Identify [] (taken n rs ++ ys)
  identity_whole rs ys e =
      let same = same_poll n rs ys e in
      sym (ap (λ ss. reset_with ss ++ once_ready (polled n (taken n rs ++ ys)) (identity_cycles (left n (taken n rs ++ ys)))) same.takes
      ∙ (ap (λ x. reset_with (taken n rs) ++ once_ready x (identity_cycles (left n (taken n rs ++ ys)))) same.ends
      ∙ (ap (λ zs. reset_with (taken n rs) ++ once_ready (polled n rs) (identity_cycles zs)) same.leaves
      ∙ ap (λ zs. reset_with (taken n rs) ++ zs) (once_ready_lem (polled n rs) (identity_cycles ys) e))))
    where
      reset_with : List ℕ → List Cycle
      reset_with ss = command op.Reset ∷ command op.ReadStatus ∷ map gave ss

module _ {X : Type 0} {p : Ghosts X} {s : Session X} (k : Passed p s call.Identify []) where
  pub identity_late : {at : Option Page} {f : Fault} {b : X} → Stopped p s.state.polls at (reset_cycles s.state.polls) f s.port b
      → Stopped p s.state.polls at (cycles s.state.part s.state.polls call.Identify []) f s.port b
  identity_late t =
      stopped_before (λ rs. once_ready (polled s.state.polls rs) (identity_cycles (left s.state.polls rs))) (λ rs e. ap (λ x. once_ready x (identity_cycles (left s.state.polls rs))) e) t

  module _ {G : List ℕ → Type 0} {b : X} (w : Went p s.state.polls (reset_cycles s.state.polls) G s.port b) where
    pub identity_cut : {d : X} → Short p identity_cycles b d → ⊥
    identity_cut t = never_cut k (taken s.state.polls w.replies ++ t.replies) (identity_whole s.state.part s.state.polls w.replies t.replies w.ready) (cut_later w.ran t.cut)

    pub identity_came : (bs : List ℕ) {a : Reply} {t : Session X} (x : Option Part) → length bs ≡ 5 → x ≡ identified bs
        → a ≡ (named (view_of s) bs x).reply → view_of t ≡ (named (view_of s) bs x).view → Ran p (identity_cycles bs) b t.port → Called p call.Identify [] a s t
    identity_came bs {a} {t} x h i j l r =
        let n = s.state.polls in
        let rs = taken n w.replies ++ bs in
        let same = same_poll n w.replies bs w.ready in
        let q = some_is (polled n w.replies) w.ready in
        let read = ap (first_of 5) same.leaves ∙ first_all 5 bs h in
        let e = ap (λ ys. identified_by (view_of s) ys (polled n rs)) read ∙ ap (λ y. identified_by (view_of s) bs y) (same.ends ∙ q.1) ∙ ap (λ y. named (view_of s) bs y) (sym i) in
        called_accepted k rs (j ∙ sym (ap (λ y. y.reply) e)) (l ∙ sym (ap (λ y. y.view) e))
        (ran_as (identity_whole s.state.part n w.replies bs w.ready) (ran_append w.ran r))
