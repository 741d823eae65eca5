-- What the work on a block makes of its record.
use Rattle.std.specs.Prelude.{◌≡◌}
use Rattle.std.specs.Fn.{Once, FnOnceReturnsAtMut}
use denote.Ref.{MutBor}
use Rattle.flash.specs.declared.record.BlockRecord.{BlockRecord}

-- what f leaves of a record is what g makes of it
abbrev pub Makes : {F : Type 0} → Once F (MutBor BlockRecord × Unit {0}) (Unit {0} × (MutBor BlockRecord × Unit {0})) → F → (BlockRecord → BlockRecord) → Type 0
Makes c f g = (k l : BlockRecord) → FnOnceReturnsAtMut c f k tt l → l ≡ g k
