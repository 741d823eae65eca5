-- A tape: the cycles written to its owner's list, and the replies that it gives.
use Rattle.std.specs.Prelude.{◌≡◌, ℕ, ◌+◌, ◌-◌, List, [], ◌∷◌, ◌++◌, map, length, take, drop, slice_index_or, slice_set}
use Rattle.flash.specs.declared.cycle.Cycle.{Cycle}
use Rattle.bus.specs.Bus.{first, steps}
use Rattle.port.specs.Meanings.{Meaning, code}
use Rattle.port.specs.declared.tape.Tape.{Tape}

-- a list of places, of which the first n are written
abbrev pub taped : List Cycle → ℕ → Meaning
taped places n = record { reader = steps first (take n places); room = length places - n; trail = map code (take n places) }

-- what a tape means
abbrev pub means_of : Tape → Meaning
means_of t = taped t.places.now t.next

-- the trail gains each cycle as a number
abbrev pub appended : List ℕ → Cycle → List ℕ
appended t c = t ++ code c ∷ []

-- the cycles that a tape has written
abbrev pub written_on : Tape → List Cycle
written_on t = take t.next t.places.now

-- the reply that the next take gives: FFh after the last one
abbrev pub next_reply : Tape → ℕ
next_reply t = slice_index_or t.replies.now 0 0xFF

-- the replies that the next take leaves
abbrev pub replies_left : Tape → List ℕ
replies_left t = drop 1 t.replies.now

-- one cycle was written at the next place, all other places stand, and these replies are left
pub record Wrote (t u : Tape) (c : Cycle) (left : List ℕ) : Type 0 where
  pub places : u.places.now ≡ slice_set t.places.now t.next c
  pub next : u.next ≡ t.next + 1
  pub replies : u.replies.now ≡ left

-- nothing was written, and no reply given
pub record Unchanged (t u : Tape) : Type 0 where
  pub places : u.places.now ≡ t.places.now
  pub next : u.next ≡ t.next
  pub replies : u.replies.now ≡ t.replies.now
