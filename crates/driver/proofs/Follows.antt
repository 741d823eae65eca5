-- A call in two sequences: one with a poll, and one that goes only to a chip that became ready.
use Rattle.std.proofs.Common.{◌≡◌, ℕ, ◌≤◌, true, List, ◌++◌, length, is_some, Some, None, Option, sym, refl, ap, ◌∙◌, inl, inr, ⊎_elim, arith}
use Rattle.flash.specs.declared.address.Row.{Row}
use Rattle.flash.specs.declared.cycle.Cycle.{Cycle}
use Rattle.flash.specs.declared.fault.Fault.{Fault}
use Rattle.flash.specs.declared.page.Page.{Page}
use Rattle.flash.specs.declared.part.Part.{Part}
use Rattle.port.specs.declared.port.Port.{Ghosts}
use Rattle.commands.specs.Polls.{polled}
use Rattle.commands.specs.Sequences.{copy_read_cycles, copy_cycles}
use Rattle.commands.specs.Sent.{Ran, Cut, Went, Stopped}
use Rattle.commands.proofs.Runs.{ran_as, cut_as, ran_append, cut_later, stopped_before}
use Rattle.calls.specs.Table.{once_ready}

module _ {X : Type 0} {p : Ghosts X} {n : ℕ} {cs ds : List ℕ → List Cycle} {a b : X} (same : (rs : List ℕ) → cs rs ≡ ds rs) where
  pub stopped_as : {at : Option Page} {f : Fault} → Stopped p n at cs f a b → Stopped p n at ds f a b
  stopped_as s =
      ⊎_elim
      (λ t. inl (t.0, record { replies = t.1.replies; never = t.1.never; all = t.1.all; busy = t.1.busy; ran = ran_as (same t.1.replies) t.1.ran }))
      (λ t. inr (t.0, record { replies = t.1.replies; cut = cut_as (same t.1.replies) t.1.cut })) s

  pub went_as : {G : List ℕ → Type 0} → Went p n cs G a b → Went p n ds G a b
  went_as w = record { replies = w.replies; ready = w.ready; gives = w.gives; ran = ran_as (same w.replies) w.ran }

pub once_ready_lem : (o : Option ℕ) (cs : List Cycle) → is_some o ≡ true → once_ready o cs ≡ cs
once_ready_lem None cs e = absurd (grind arith)
once_ready_lem (Some s) cs e = refl

all_of : (n : ℕ) (xs : List ℕ → List Cycle) (ds : List Cycle) {cs : List ℕ → List Cycle} → ((rs : List ℕ) → xs rs ++ once_ready (polled n rs) ds ≡ cs rs)
    → (rs : List ℕ) → is_some (polled n rs) ≡ true → xs rs ++ ds ≡ cs rs
all_of n xs ds whole rs e = ap (λ zs. xs rs ++ zs) (sym (once_ready_lem (polled n rs) ds e)) ∙ whole rs

module _ {X : Type 0} {p : Ghosts X} {n : ℕ} {a : X} (xs : List ℕ → List Cycle) (ds : List Cycle) {cs : List ℕ → List Cycle}
    (whole : (rs : List ℕ) → xs rs ++ once_ready (polled n rs) ds ≡ cs rs) where
  pub follow_late : {at : Option Page} {f : Fault} {b : X} → Stopped p n at xs f a b → Stopped p n at cs f a b
  follow_late t = stopped_as whole (stopped_before (λ rs. once_ready (polled n rs) ds) (λ rs e. ap (λ o. once_ready o ds) e) t)

  -- with room for all the cycles, the second sequence is not cut
  pub follow_cut : ((rs : List ℕ) → length (cs rs) ≤ (p.meaning a).room) → {G : List ℕ → Type 0} {b d : X} → Went p n xs G a b → Cut p ds b d → ⊥
  follow_cut enough w t =
      let u = cut_later w.ran t in
      omega (arith, u.short, ap length (all_of n xs ds whole w.replies w.ready), enough w.replies)

  pub follow_sent : {G : List ℕ → Type 0} {b d : X} → Went p n xs G a b → Ran p ds b d → Went p n cs G a d
  follow_sent w r = record { replies = w.replies; ready = w.ready; gives = w.gives; ran = ran_as (all_of n xs ds whole w.replies w.ready) (ran_append w.ran r) }

-- the cycles of a copy, at a part that is known by an equation
pub copy_whole : {o q : Option Part} → o ≡ q → (n : ℕ) (w v : Row) (rs : List ℕ)
    → copy_read_cycles o n w rs ++ once_ready (polled n rs) (copy_cycles q v) ≡ copy_read_cycles q n w rs ++ once_ready (polled n rs) (copy_cycles q v)
copy_whole {o} {q} e n w v rs = ap (λ x. copy_read_cycles x n w rs ++ once_ready (polled n rs) (copy_cycles q v)) e
