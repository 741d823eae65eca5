-- What a model chip at run time holds and means.
use Rattle.std.specs.Prelude.{◌≡◌, ℕ, Bool, List, [], length}
use Rattle.bus.specs.Readers.{meant}
use Rattle.flash.specs.declared.cycle.Cycle.{Cycle}
use Rattle.port.specs.Meanings.{Meaning}
use Rattle.chip.specs.Chips.{Memory, Chip, chip_step, enough, room_for}
use Rattle.chip.specs.Kept.{Kept}
use Rattle.chip.specs.States.{memory_in, chip_in}
use Rattle.chip.specs.declared.model.ModelChip.{ModelChip}

abbrev pub memory_of : ModelChip → Memory
memory_of k = memory_in k.state.memory

abbrev pub chip_of : ModelChip → Chip
chip_of k = chip_in k.state

abbrev pub has_room : ModelChip → Bool
has_room k = enough k.part (length k.state.reader.blocks.now)

-- 65,535, or nought where the block records lent are fewer than the part's blocks
abbrev pub room_of : ModelChip → ℕ
room_of k = room_for k.part (length k.state.reader.blocks.now)

abbrev pub means_of : ModelChip → Meaning
means_of k = record { reader = meant k.state.reader; room = room_of k; trail = [] }

-- the trail of a model chip stays empty
abbrev pub unmoved : List ℕ → Cycle → List ℕ
unmoved t c = t

-- the chip took this cycle by the definition, its memory keeps the law, part and status bytes stay
pub record Ran (k l : ModelChip) (c : Cycle) : Type 0 where
  pub chip : chip_of l ≡ chip_step k.statuses.now (chip_of k) c
  pub kept : Kept (chip_of k) (chip_of l) c
  pub part : l.part ≡ k.part
  pub statuses : l.statuses.now ≡ k.statuses.now

-- nothing has changed
pub record Rests (k l : ModelChip) : Type 0 where
  pub chip : chip_of l ≡ chip_of k
  pub part : l.part ≡ k.part
  pub statuses : l.statuses.now ≡ k.statuses.now
