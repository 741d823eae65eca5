-- An address on the bus, byte by byte.
use Rattle.std.proofs.Common.{◌≡◌, ℕ, ◌*◌, ◌/◌, ◌%◌, ◌<◌, ◌≤◌, true, false, cond, ltb, List, [], ◌∷◌, map, Some, refl, ap, ◌∙◌, arith, None, Option}
use Rattle.std.proofs.lemmas.Bool.{lt-ltb}
use Rattle.flash.specs.declared.address.Column.{Column}
use Rattle.flash.specs.declared.address.Row.{Row}
use Rattle.flash.specs.declared.part.Part.{Part}
use Rattle.flash.specs.declared.part.Part.TheVariants.{OneGbit, TwoGbit}
use Rattle.flash.specs.Parts.{blocks_of, address_cycles}
use Rattle.flash.specs.Addresses.{block_of, column_of, row_of}
use Rattle.bus.specs.Acts.{when, in_chain, row_in, column_in, nameable}
use Rattle.bus.specs.Bus.{Reader}
use Rattle.bus.specs.States.{cycles_in, nothing_given, plus}
use Rattle.bus.specs.declared.act.Act.TheVariants as act
use Rattle.bus.specs.declared.state.Given.{Given}
use Rattle.bus.specs.declared.state.Setup.{Setup}
use Rattle.bus.specs.declared.state.Setup.TheVariants as setup
use Rattle.bus.specs.declared.state.Phase.TheVariants as phase
use Rattle.bus.specs.declared.state.PageRead.{PageRead}
use Rattle.commands.specs.Sequences.{address_byte, row_bytes, addressed}
use Rattle.calls.specs.Afters.{move_to}
use Rattle.calls.proofs.Goes.{Runs, runs_then, runs_to, runs_plain}

-- two bytes given, the column's
abbrev column_given : ℕ → ℕ → Given
column_given low high = record { count = 2; bytes = low ∷ high ∷ 0 ∷ 0 ∷ 0 ∷ [] }

-- a row of the part comes back from its bytes
row_of_two : (w : Row) → w.number < 65536 → row_of (w.number % 256 ∷ w.number / 256 % 256 ∷ 0 ∷ []) ≡ w
row_of_two w h = ap (λ n. record { number = n }) (omega arith)

row_of_three : (w : Row) → w.number < 131072 → row_of (w.number % 256 ∷ w.number / 256 % 256 ∷ w.number / 256 / 256 % 256 ∷ []) ≡ w
row_of_three w h = ap (λ n. record { number = n }) (omega arith)

column_of_two : (c : Column) → c.number < 65536 → column_of (c.number % 256 ∷ c.number / 256 % 256 ∷ []) ≡ c
column_of_two c h = ap (λ n. record { number = n }) (omega arith)

module _ (r : Reader) (h : List ℕ) (m : r.bus.breaches ≤ 65535) (p : Part) (known : r.bus.part ≡ Some p) where
  byte_more : (s : Setup) (g : Given) (x : Option PageRead) (b : ℕ) → ltb (plus g b).count (address_cycles p) ≡ true
      → Runs (move_to (phase.Addressing s g) x r) h (address_byte b ∷ []) (move_to (phase.Addressing s (plus g b)) x r) h []
  byte_more s g x b e = runs_plain (move_to (phase.Addressing s g) x r) h (address_byte b) (act.Prepare (phase.Addressing s (plus g b)) x) refl m (simp (known, e))

  byte_last : (s : Setup) (g : Given) (x : Option PageRead) (b : ℕ) (w : Row) → ltb (plus g b).count (address_cycles p) ≡ false → row_in (plus g b) ≡ w
      → block_of w < blocks_of p → in_chain r.bus.chain w ≡ true
      → Runs (move_to (phase.Addressing s g) x r) h (address_byte b ∷ []) (move_to (phase.Addressed s (column_in (plus g b)) w) x r) h []
  byte_last s g x b w e i l q =
      runs_plain (move_to (phase.Addressing s g) x r) h (address_byte b) (act.Prepare (phase.Addressed s (column_in (plus g b)) w) x) refl m
      (let t : ltb (block_of w) (blocks_of p) ≡ true = lt-ltb (block_of w) (blocks_of p) l in
      ap (λ v. cond (ltb (plus g b).count (cycles_in r.bus.part)) (act.Prepare (phase.Addressing s (plus g b)) x)
      (when (nameable (move_to (phase.Addressing s g) x r).bus v) (act.Prepare (phase.Addressed s (column_in (plus g b)) v) x))) i
      ∙ simp (known, e, t, q))

module _ (r : Reader) (h : List ℕ) (m : r.bus.breaches ≤ 65535) (s : Setup) (x : Option PageRead) (w : Row) (q : in_chain r.bus.chain w ≡ true) where
  pub row_runs : (p : Part) (low high : ℕ) → r.bus.part ≡ Some p → w.number < 64 * blocks_of p
      → Runs (move_to (phase.Addressing s (column_given low high)) x r) h (map address_byte (row_bytes (Some p) w)) (move_to (phase.Addressed s (column_of (low ∷ high ∷ [])) w) x r) h []
  row_runs OneGbit low high known l =
      runs_then (byte_more r h m OneGbit known s (column_given low high) x (w.number % 256) refl)
      (byte_last r h m OneGbit known s (plus (column_given low high) (w.number % 256)) x (w.number / 256 % 256) w refl (row_of_two w (omega arith)) (omega arith) q)
  row_runs TwoGbit low high known l =
      runs_then (byte_more r h m TwoGbit known s (column_given low high) x (w.number % 256) refl)
      (runs_then (byte_more r h m TwoGbit known s (plus (column_given low high) (w.number % 256)) x (w.number / 256 % 256) refl)
      (byte_last r h m TwoGbit known s (plus (plus (column_given low high) (w.number % 256)) (w.number / 256 % 256)) x (w.number / 256 / 256 % 256) w refl (row_of_three w (omega arith)) (omega arith) q))

-- a whole address, after the command that begins it
module _ (r : Reader) (h : List ℕ) (m : r.bus.breaches ≤ 65535) (p : Part) (known : r.bus.part ≡ Some p) (w : Row) (l : w.number < 64 * blocks_of p)
    (q : in_chain r.bus.chain w ≡ true) (c : Column) (k : c.number < 65536) where
  some_cycles : (n : ℕ) → n < 4 → ltb n (address_cycles p) ≡ true
  some_cycles n i = grind arith

  row_after : (s : Setup) (x : Option PageRead) → Runs (move_to (phase.Addressing s (column_given (c.number % 256) (c.number / 256 % 256))) x r) h (map address_byte (row_bytes (Some p) w)) (move_to (phase.Addressed s c w) x r) h []
  row_after s x = runs_to (ap (λ d. move_to (phase.Addressed s d w) x r) (column_of_two c k)) (row_runs r h m s x w q p (c.number % 256) (c.number / 256 % 256) known l)

  pub address_runs : (s : Setup) (x : Option PageRead) → Runs (move_to (phase.Addressing s nothing_given) x r) h (addressed (Some p) w c) (move_to (phase.Addressed s c w) x r) h []
  address_runs s x =
      runs_then (byte_more r h m p known s nothing_given x (c.number % 256) (some_cycles 1 (omega arith)))
      (runs_then (byte_more r h m p known s (plus nothing_given (c.number % 256)) x (c.number / 256 % 256) (some_cycles 2 (omega arith))) (row_after s x))

  -- after 00h the first byte also empties the register
  pub address_read : (x : Option PageRead) → Runs (move_to phase.ReadSetup x r) h (addressed (Some p) w c) (move_to (phase.Addressed setup.Read c w) None r) h []
  address_read x =
      runs_then (runs_plain (move_to phase.ReadSetup x r) h (address_byte (c.number % 256)) (act.Prepare (phase.Addressing setup.Read (plus nothing_given (c.number % 256))) None) refl m refl)
      (runs_then (byte_more r h m p known setup.Read (plus nothing_given (c.number % 256)) None (c.number / 256 % 256) (some_cycles 2 (omega arith))) (row_after setup.Read None))
