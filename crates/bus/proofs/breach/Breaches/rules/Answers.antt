use Rattle.std.proofs.Common.{◌≡◌, true, false, Bool, refl, append-nil}
use Rattle.std.specs.Bool.{then_some}
use Rattle.std.specs.Option.{option_to_list}
use Rattle.bus.specs.Breaches.{if_so}
use Rattle.bus.specs.declared.breach.Breach.{Breach}
use Rattle.bus.proofs.breach.Breaches.rules.Goals as goal

-- a rule in its place
placed : (b : Bool) (x : Breach) → option_to_list (then_some b x) ≡ if_so b x
placed true x = refl
placed false x = refl

-- src/breach.rt:54:5
pub returns-clause-broken : goal.returns-clause-broken
returns-clause-broken c = rw (c.then_some.ensures, c.then_some-2.ensures, c.then_some-3.ensures, c.then_some-4.ensures, c.then_some-5.ensures) (simp (placed, append-nil))
