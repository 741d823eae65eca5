-- Cycles that went over a port, put together.
use Rattle.std.proofs.Common.{ℕ, List, [], ◌∷◌, ◌++◌, refl, ap, ◌∙◌, arith, length-append}
use mathlib.Core.List.{foldl, foldl-append}
use Rattle.flash.specs.declared.cycle.Cycle.{Cycle}
use Rattle.bus.specs.Bus.{steps}
use Rattle.port.specs.Meanings.{Meaning, Stepped, Took}

module _ {f : List ℕ → Cycle → List ℕ} where
  pub took_none : (m : Meaning) → Took f [] m m
  took_none m = record { reads = refl; trails = refl; least = omega arith; most = omega arith }

  pub took_one : {c : Cycle} {m n : Meaning} → Stepped f c m n → Took f (c ∷ []) m n
  took_one s = record { reads = s.reads; trails = s.trails; least = s.least; most = s.most }

  pub took_append : {xs ys : List Cycle} {m n o : Meaning} → Took f xs m n → Took f ys n o → Took f (xs ++ ys) m o
  took_append {xs} {ys} {m} {n} {o} p q = record {
    reads = rw foldl-append (q.reads ∙ ap (λ r. steps r ys) p.reads);
    trails = rw foldl-append (q.trails ∙ ap (λ t. foldl f t ys) p.trails);
    least = simp length-append (omega arith);
    most = omega arith;
  }
