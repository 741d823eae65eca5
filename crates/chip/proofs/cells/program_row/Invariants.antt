use Rattle.std.proofs.Common.{◌≡◌, ℕ, ◌<◌, ◌≤◌, get_or}
use lib.Bits.{bit_and}
use Rattle.chip.proofs.cells.program_row.Given as goal

-- the columns so far are ANDed, the others are as they were
abbrev pub invariant-loop-column : goal.invariant-loop-column
invariant-loop-column l = record {
  done : (k : ℕ) → k < l.column → get_or l.cell-items k 0 ≡ bit_and (get_or l.initial.cell-items k 0) (get_or l.page k 0);
  rest : (k : ℕ) → l.column ≤ k → get_or l.cell-items k 0 ≡ get_or l.initial.cell-items k 0;
}
