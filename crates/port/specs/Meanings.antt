-- What a port means, and what a cycle does to that.
use Rattle.std.specs.Prelude.{◌≡◌, ℕ, ◌+◌, ◌*◌, ◌<◌, ◌≤◌, List, length}
use mathlib.Core.List.{foldl}
use Rattle.flash.specs.declared.cycle.Cycle.{Cycle}
use Rattle.flash.specs.declared.cycle.Kind.{Kind}
use Rattle.flash.specs.declared.cycle.Kind.TheVariants.{Command, Address, DataIn, DataOut}
use Rattle.bus.specs.Bus.{Reader, first, step, steps}
use Rattle.port.specs.declared.port.HostCycle.{HostCycle}
use Rattle.port.specs.declared.port.HostKind.{HostKind}
use Rattle.port.specs.declared.port.HostKind.TheVariants as host

-- the bus reader after all cycles, the cycles that the port can still take, and its trail
pub record Meaning : Type 0 where
  pub reader : Reader
  pub room : ℕ
  pub trail : List ℕ

-- a port is fresh where its reader is in the first state
abbrev pub Fresh : Meaning → Type 0
Fresh m = m.reader ≡ first

-- the cycle that the host puts, and the one in which the chip gives a byte
abbrev pub host_kind : HostKind → Kind
host_kind host.Command = Command
host_kind host.Address = Address
host_kind host.DataIn = DataIn

abbrev pub driven : HostCycle → Cycle
driven c = record { kind = host_kind c.kind; byte = c.byte }

abbrev pub gave : ℕ → Cycle
gave b = record { kind = DataOut; byte = b }

-- a cycle as a number: 256 times its kind, 0 to 3, and its byte
abbrev pub kind_number : Kind → ℕ
kind_number Command = 0
kind_number Address = 1
kind_number DataIn = 2
kind_number DataOut = 3

abbrev pub code : Cycle → ℕ
code c = 256 * kind_number c.kind + c.byte

-- one cycle went over
pub record Stepped (moves : List ℕ → Cycle → List ℕ) (c : Cycle) (m n : Meaning) : Type 0 where
  pub had : 0 < m.room
  pub reads : n.reader ≡ step m.reader c
  pub trails : n.trail ≡ moves m.trail c
  pub least : m.room ≤ n.room + 1
  pub most : n.room ≤ m.room

-- no room was left, and all is as it was
pub record Refused (m n : Meaning) : Type 0 where
  pub empty : m.room ≡ 0
  pub same : n ≡ m

-- these cycles went over, one after the other
pub record Took (moves : List ℕ → Cycle → List ℕ) (cs : List Cycle) (m n : Meaning) : Type 0 where
  pub reads : n.reader ≡ steps m.reader cs
  pub trails : n.trail ≡ foldl moves m.trail cs
  pub least : m.room ≤ n.room + length cs
  pub most : n.room ≤ m.room
