-- What the teller at run time holds and tells.
use Rattle.std.specs.Prelude.{◌≡◌, ℕ, ◌<◌, List, [], ◌∷◌, ◌++◌, map, length, take, Some, None, vec_items, Option}
use Rattle.flash.specs.declared.cycle.Cycle.{Cycle}
use Rattle.bus.specs.Readers.{held}
use Rattle.events.specs.Events.{Thing, broke, reset, status, identity, read, byte, erase, program, place, Telling, follows, events}
use Rattle.events.specs.declared.event.Event.{Event}
use Rattle.events.specs.declared.event.Event.TheVariants as event
use Rattle.events.specs.declared.teller.Teller.{Teller}

-- the thing that an event tells
abbrev pub thing : Event → Thing
thing (event.Breach n b) = broke n b
thing event.Reset = reset
thing (event.Status b) = status b
thing (event.Identity bs) = identity bs
thing (event.Read x) = read x.copy (place x.row x.column)
thing (event.Data n b) = byte n b
thing (event.Erase b) = erase b
thing (event.Program w c f bs) = program f (place w c) (vec_items bs)

abbrev pub listed : Option Event → List Thing
listed None = []
listed (Some e) = thing e ∷ []

-- what a teller stands for, over the records that it was lent
abbrev pub stands : Teller → Telling
stands t = record { reader = held t.reader; hand = vec_items t.hand; cycles = t.cycles }

-- these cycles were read, and what they tell was added to the events
pub record Told (t u : Telling) (cs : List Cycle) (before after : List Event) : Type 0 where
  pub stands : u ≡ follows t cs
  pub tells : map thing after ≡ map thing before ++ events t cs

-- a front of the cycles was read and told
pub record ToldFront (t u : Telling) (cs : List Cycle) (before after : List Event) : Type 0 where
  pub count : ℕ
  pub fewer : count < length cs
  pub told : Told t u (take count cs) before after
