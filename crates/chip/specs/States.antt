-- What a model chip at run time holds, its part aside.
use Rattle.bus.specs.Readers.{held}
use Rattle.chip.specs.Chips.{Memory, Chip}
use Rattle.chip.specs.declared.memory.ChipMemory.{ChipMemory}
use Rattle.chip.specs.declared.state.ChipState.{ChipState}

abbrev pub memory_in : ChipMemory → Memory
memory_in m = record { cells = m.cells.now; page = m.page; status = m.status }

abbrev pub chip_in : ChipState → Chip
chip_in s = record { reader = held s.reader; memory = memory_in s.memory }
