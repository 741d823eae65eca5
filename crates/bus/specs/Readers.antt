-- What the reader at run time holds, means and tells.
use Rattle.flash.specs.declared.cycle.Cycle.{Cycle}
use Rattle.bus.specs.Acts.{act_of}
use Rattle.bus.specs.Bus.{Reader, breaches_of, filled}
use Rattle.bus.specs.declared.reader.BusReader.{BusReader}
use Rattle.bus.specs.declared.reader.Told.{Told}

-- the bus, and the records that it was lent
abbrev pub held : BusReader → Reader
held x = record { bus = x.bus; blocks = x.blocks.now }

-- the same, with the records filled up to 2,048
abbrev pub meant : BusReader → Reader
meant x = record { bus = x.bus; blocks = filled x.blocks.now }

-- what a cycle is, and which rules it breaks
abbrev pub told : Reader → Cycle → Told
told r c = record { act = act_of r.bus c; breaches = breaches_of r (act_of r.bus c) }
