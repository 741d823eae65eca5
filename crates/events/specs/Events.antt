-- What the bus reader tells: each thing that was done, and each rule that was broken, in order.
use Rattle.std.specs.Prelude.{ℕ, ◌+◌, ◌-◌, ◌^◌, min, Bool, List, [], ◌∷◌, ◌++◌, map}
use mathlib.Core.List.{foldl}
use Rattle.flash.specs.Addresses.{block_of, page_of}
use Rattle.flash.specs.declared.address.Column.{Column}
use Rattle.flash.specs.declared.address.Row.{Row}
use Rattle.flash.specs.declared.cycle.Cycle.{Cycle}
use Rattle.bus.specs.Acts.{act_of}
use Rattle.bus.specs.Breaches.{named}
use Rattle.bus.specs.Bus.{Reader, first, step, breaches_of}
use Rattle.bus.specs.declared.act.Act.{Act}
use Rattle.bus.specs.declared.act.Act.TheVariants as act
use Rattle.bus.specs.declared.act.Confirm.{Confirm}
use Rattle.bus.specs.declared.breach.Breach.{Breach}

-- where a page or a byte of it stands
pub record Place : Type 0 where
  pub block : ℕ
  pub page : ℕ
  pub column : ℕ

-- one thing told: a rule broken by the n-th cycle; FFh; a status byte; five identity bytes; a read,
-- or a copy read; a byte of the register, given by the n-th cycle; an erase of a block; a program with the bytes given
pub data Thing : Type 0 where
  broke : ℕ → Breach → Thing
  reset : Thing
  status : ℕ → Thing
  identity : List ℕ → Thing
  read : Bool → Place → Thing
  byte : ℕ → ℕ → Thing
  erase : ℕ → Thing
  program : Confirm → Place → List ℕ → Thing

abbrev pub place : Row → Column → Place
place w c = record { block = block_of w; page = page_of w; column = c.number }

-- what an act does at the n-th cycle, with these bytes in hand
abbrev pub happened : ℕ → Act → List ℕ → List Thing
happened n act.WhileBusy hand = []
happened n act.OutOfPlace hand = []
happened n act.Reset hand = reset ∷ []
happened n (act.Prepare p g) hand = []
happened n (act.Status b) hand = status b ∷ []
happened n (act.Identify bs) hand = identity bs ∷ []
happened n (act.Read x) hand = read x.copy (place x.row x.column) ∷ []
happened n (act.Data w c b) hand = byte n b ∷ []
happened n (act.Erase w) hand = erase (block_of w) ∷ []
happened n (act.Load w s c b) hand = []
happened n (act.Program w c f) hand = program f (place w c) hand ∷ []

-- the bytes in hand: those given of a program that is not yet confirmed
abbrev pub hand_after : Act → List ℕ → List ℕ
hand_after act.WhileBusy hand = hand
hand_after act.OutOfPlace hand = hand
hand_after act.Reset hand = []
hand_after (act.Prepare p g) hand = hand
hand_after (act.Status b) hand = hand
hand_after (act.Identify bs) hand = hand
hand_after (act.Read x) hand = hand
hand_after (act.Data w c b) hand = hand
hand_after (act.Erase w) hand = hand
hand_after (act.Load w s c b) hand = hand ++ b ∷ []
hand_after (act.Program w c f) hand = []

-- a reader that tells: with the bytes in hand, and how many cycles it has read (as 64 bits hold)
pub record Telling : Type 0 where
  pub reader : Reader
  pub hand : List ℕ
  pub cycles : ℕ

abbrev pub begun : Telling
begun = record { reader = first; hand = []; cycles = 0 }

abbrev pub later : ℕ → ℕ
later n = min (n + 1) (2 ^ 64 - 1)

abbrev pub told_at : ℕ → Reader → Act → List ℕ → List Thing
told_at n r a hand = map (broke n) (named (breaches_of r a)) ++ happened n a hand

-- what one cycle tells: the rules that it breaks, then what it does
unfoldable pub tells : Telling → Cycle → List Thing
tells t c = told_at (later t.cycles) t.reader (act_of t.reader.bus c) t.hand

unfoldable pub follow : Telling → Cycle → Telling
follow t c = record { reader = step t.reader c; hand = hand_after (act_of t.reader.bus c) t.hand; cycles = later t.cycles }

abbrev pub follows : Telling → List Cycle → Telling
follows t cs = foldl follow t cs

-- what a list of cycles tells
abbrev pub events : Telling → List Cycle → List Thing
events t [] = []
events t (c ∷ cs) = tells t c ++ events (follow t c) cs
