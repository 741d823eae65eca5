-- The rules that a cycle breaks, named and counted.
use Rattle.std.proofs.Common.{◌≡◌, ◌+◌, ◌≤◌, min, true, [], ◌∷◌, length, refl, arith}
use Rattle.bus.specs.Laws.{OnlyCounted}
use Rattle.bus.proofs.Moves.{breaches_stay}
use Rattle.bus.specs.Breaches.{how_many, named}
use Rattle.bus.specs.Bus.{Reader, breaches_of, counted, done}
use Rattle.bus.specs.declared.act.Act.{Act}
use Rattle.bus.specs.declared.act.Act.TheVariants as act
use Rattle.bus.specs.declared.breach.Breach.TheVariants as breach
use Rattle.bus.specs.declared.breach.Breaches.{Breaches}

how_many_lem : (x : Breaches) → how_many x ≡ length (named x)
how_many_lem x = grind arith

-- nothing but the count
only_counted : (r : Reader) → OnlyCounted r (record { bus = counted r.bus 1; blocks = r.blocks })
only_counted r = record { part = refl; phase = refl; busy = refl; register = refl; chain = refl; blocks = refl; breaches = refl }

module _ (r : Reader) (a : Act) where
  is_busy : (breaches_of r a).while_busy ≡ true → a ≡ act.WhileBusy
  is_busy h = grind arith

  is_misplaced : (breaches_of r a).out_of_place ≡ true → a ≡ act.OutOfPlace
  is_misplaced h = grind arith

  pub while_busy_lem : (breaches_of r a).while_busy ≡ true → (named (breaches_of r a) ≡ breach.WhileBusy ∷ []) × OnlyCounted r (done r a)
  while_busy_lem h = rw (is_busy h) (refl, only_counted r)

  pub out_of_place_lem : (breaches_of r a).out_of_place ≡ true → (named (breaches_of r a) ≡ breach.OutOfPlace ∷ []) × OnlyCounted r (done r a)
  out_of_place_lem h = rw (is_misplaced h) (refl, only_counted r)

  pub rises : (done r a).bus.breaches ≡ min 65535 (r.bus.breaches + length (named (breaches_of r a)))
  rises = rw (breaches_stay r.bus a, how_many_lem (breaches_of r a)) refl

  pub least : r.bus.breaches ≤ 65535 → r.bus.breaches ≤ (done r a).bus.breaches
  least h = rw rises (omega arith)
