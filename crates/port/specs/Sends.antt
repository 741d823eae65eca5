-- A list of cycles on its way through a port.
use Rattle.std.specs.Prelude.{◌≡◌, ℕ, ◌<◌, List, map, length, take}
use Rattle.flash.specs.declared.cycle.Cycle.{Cycle}
use Rattle.port.specs.Meanings.{Meaning, Took, driven}
use Rattle.port.specs.declared.port.HostCycle.{HostCycle}

-- a front of the cycles went over, and then the room was nought
pub record SentFront (moves : List ℕ → Cycle → List ℕ) (cs : List HostCycle) (m n : Meaning) : Type 0 where
  pub count : ℕ
  pub fewer : count < length cs
  pub took : Took moves (map driven (take count cs)) m n
  pub full : n.room ≡ 0
