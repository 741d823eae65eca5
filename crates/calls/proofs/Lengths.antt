-- A call puts no more than its most cycles.
use Rattle.std.proofs.Common.{◌≡◌, ℕ, zero, suc, ◌+◌, ◌≤◌, Bool, true, false, cond, List, [], ◌∷◌, ◌++◌, length, Some, None, Option, refl, arith, length-append}
use Rattle.std.proofs.lemmas.List.{length-map}
use Rattle.flash.specs.declared.address.Column.{Column}
use Rattle.flash.specs.declared.address.Row.{Row}
use Rattle.flash.specs.declared.cycle.Cycle.{Cycle}
use Rattle.flash.specs.declared.opcode.Opcode.{Opcode}
use Rattle.flash.specs.declared.opcode.Opcode.TheVariants as op
use Rattle.flash.specs.declared.part.Part.{Part}
use Rattle.flash.specs.declared.part.Part.TheVariants.{OneGbit, TwoGbit}
use Rattle.flash.specs.Statuses.{ready}
use Rattle.flash.specs.Addresses.{row_at}
use Rattle.bus.specs.declared.act.Confirm.{Confirm}
use Rattle.bus.specs.declared.act.Confirm.TheVariants as confirm
use Rattle.commands.specs.Polls.{polled, taken, left, poll_cycles}
use Rattle.commands.specs.Sequences.{row_bytes, first_column, reset_cycles, identity_cycles, erase_cycles, program_cycles, copy_cycles, open_cycles, out_cycles, read_cycles, copy_read_cycles}
use Rattle.calls.specs.Table.{mark_column, block_row, chain_page, once_ready, row_count, address_count, poll_count, open_count, WithinMost}
use Rattle.calls.specs.declared.call.Call.{Call}
use Rattle.calls.specs.declared.call.Call.TheVariants as call
use Rattle.calls.proofs.Tables.{first_length}

taken_by : (n s : ℕ) (rs : List ℕ) (q : Bool) → length (taken n rs) ≤ n → length (s ∷ cond q [] (taken n rs)) ≤ suc n
taken_by n s rs true h = omega arith
taken_by n s rs false h = omega arith

taken_most : (n : ℕ) (rs : List ℕ) → length (taken n rs) ≤ n
taken_most zero rs = omega arith
taken_most (suc n) [] = omega arith
taken_most (suc n) (s ∷ rs) = taken_by n s rs (ready s) (taken_most n rs)

row_length : (o : Option Part) (w : Row) → length (row_bytes o w) ≡ row_count o
row_length None w = refl
row_length (Some OneGbit) w = refl
row_length (Some TwoGbit) w = refl

poll_length : (n : ℕ) (rs : List ℕ) → length (poll_cycles n rs) ≤ poll_count n
poll_length n rs = simp length-map (omega (arith, taken_most n rs))

erase_length : (o : Option Part) (w : Row) → length (erase_cycles o w) ≡ 1 + row_count o + 1
erase_length o w = simp (length-append, length-map) (omega (arith, row_length o w))

program_length : (o : Option Part) (w : Row) (c : Column) (bs : List ℕ) (f : Confirm) → length (program_cycles o w c bs f) ≡ 1 + address_count o + length bs + 1
program_length o w c bs f = simp (length-append, length-map) (omega (arith, row_length o w))

copy_length : (o : Option Part) (w : Row) → length (copy_cycles o w) ≡ 1 + address_count o + 1
copy_length o w = simp (length-append, length-map) (omega (arith, row_length o w))

open_length : (f : Opcode) (o : Option Part) (n : ℕ) (w : Row) (c : Column) (rs : List ℕ) → length (open_cycles f o n w c rs) ≤ open_count o n
open_length f o n w c rs = simp (length-append, length-map) (omega (arith, row_length o w, taken_most n rs))

identity_length : (rs : List ℕ) → length (identity_cycles rs) ≡ 7
identity_length rs = simp length-map (omega (arith, first_length 5 rs))

out_length : (x : Option ℕ) (len : ℕ) (rs : List ℕ) → length (out_cycles x len rs) ≤ 1 + len
out_length None len rs = omega arith
out_length (Some s) len rs = simp length-map (omega (arith, first_length len rs))

once_length : (x : Option ℕ) (cs : List Cycle) → length (once_ready x cs) ≤ length cs
once_length None cs = omega arith
once_length (Some s) cs = omega arith

read_length : (o : Option Part) (n : ℕ) (w : Row) (c : Column) (len : ℕ) (rs : List ℕ) → length (read_cycles o n w c len rs) ≤ open_count o n + 1 + len
read_length o n w c len rs =
    omega (arith, length-append (open_cycles op.ReadConfirm o n w c rs) (out_cycles (polled n rs) len (left n rs)), open_length op.ReadConfirm o n w c rs, out_length (polled n rs) len (left n rs))

module _ (o : Option Part) (n : ℕ) (rs : List ℕ) where
  chain_length : (w : Row) (c : Column) (bs : List ℕ) (f : Confirm)
      → length (poll_cycles n rs ++ once_ready (polled n rs) (program_cycles o w c bs f)) ≤ poll_count n + (1 + address_count o + length bs + 1)
  chain_length w c bs f =
      omega (arith, length-append (poll_cycles n rs) (once_ready (polled n rs) (program_cycles o w c bs f)), poll_length n rs, once_length (polled n rs) (program_cycles o w c bs f), program_length o w c bs f)

  copied_length : (w v : Row) → length (copy_read_cycles o n w rs ++ once_ready (polled n rs) (copy_cycles o v)) ≤ open_count o n + (1 + address_count o + 1)
  copied_length w v =
      omega (arith, length-append (copy_read_cycles o n w rs) (once_ready (polled n rs) (copy_cycles o v)), open_length op.CopyReadConfirm o n w first_column rs, once_length (polled n rs) (copy_cycles o v), copy_length o v)

  identify_length : length (reset_cycles n rs ++ once_ready (polled n rs) (identity_cycles (left n rs))) ≤ 1 + poll_count n + 7
  identify_length =
      omega (arith, length-append (reset_cycles n rs) (once_ready (polled n rs) (identity_cycles (left n rs))), poll_length n rs, once_length (polled n rs) (identity_cycles (left n rs)), identity_length (left n rs))

pub within_most : (o : Option Part) (n : ℕ) (c : Call) (z : ℕ) → WithinMost o n c z
within_most o n call.Identify z bs rs e = identify_length o n rs
within_most o n (call.Look p) z bs rs e = read_length o n (row_at p) mark_column 1 rs
within_most o n call.Close z bs rs e = omega arith
within_most o n (call.Read p c len) z bs rs e = read_length o n (row_at p) c len rs
within_most o n (call.Erase b) z bs rs e = omega (arith, erase_length o (block_row b))
within_most o n (call.Program p c) z bs rs e = omega (arith, program_length o (row_at p) c bs confirm.Program)
within_most o n (call.CacheFirst p c) z bs rs e = omega (arith, program_length o (row_at p) c bs confirm.Cache)
within_most o n (call.CacheNext s g c) z bs rs e = omega (arith, chain_length o n rs (row_at (chain_page s g)) c bs confirm.Cache)
within_most o n (call.CacheLast s g c) z bs rs e = omega (arith, chain_length o n rs (row_at (chain_page s g)) c bs confirm.Program)
within_most o n (call.Copy p q) z bs rs e = copied_length o n rs (row_at p) (row_at q)
within_most o n (call.Settle s) z bs rs e = poll_length n rs
within_most o n (call.Abandon s) z bs rs e = omega (arith, poll_length n rs)
within_most o n call.Reset z bs rs e = omega (arith, poll_length n rs)
within_most o n (call.Pick b) z bs rs e = omega arith
within_most o n (call.Record b) z bs rs e = omega arith
