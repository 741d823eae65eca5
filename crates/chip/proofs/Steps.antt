-- One cycle on a chip: its memory, the number of its records, and that it hears of no other part.
use Rattle.std.proofs.Common.{◌≡◌, ℕ, ◌+◌, ◌<◌, ◌≤◌, true, List, length, set, Option, refl, ap, ◌∙◌, arith, length-set}
use Rattle.std.proofs.lemmas.Bool.{and_from, and_parts, lt-ltb, ltb-true}
use Rattle.std.proofs.lemmas.Slice.Eq.{bytes_eq-Decides}
use Rattle.flash.specs.Parts.{identity_of}
use Rattle.flash.specs.declared.cycle.Cycle.{Cycle}
use Rattle.flash.specs.declared.part.Part.{Part}
use Rattle.flash.specs.declared.part.Part.TheVariants.{OneGbit, TwoGbit}
use Rattle.flash.specs.declared.record.BlockRecord.{BlockRecord}
use Rattle.bus.specs.Acts.{act_of}
use Rattle.bus.specs.Bus.{Reader, step, changed_at, concerns, changed}
use Rattle.bus.specs.States.{blocks_in, plus}
use Rattle.bus.specs.declared.act.Act.{Act}
use Rattle.bus.specs.declared.state.Given.{Given}
use Rattle.chip.specs.Chips.{identity_byte, heard, own_given}

-- a step keeps the number of records
kept_length : (n : ℕ) (o : Option ℕ) (f : BlockRecord → BlockRecord) (ks : List BlockRecord) → length (changed_at n o f ks) ≡ length ks
kept_length n o f ks = grind (arith, length-set)

pub step_length : (r : Reader) (c : Cycle) → length (step r c).blocks ≡ length r.blocks
unfolding step
step_length r c =
    let a : Act = act_of r.bus c in
    kept_length (blocks_in r.bus.part) (concerns r.bus a) (changed r.bus a) r.blocks

-- identity bytes as the part gives them
heard_more : (p : Part) (n : ℕ) → n < 4 → set (heard p n) n (identity_byte p n) ≡ heard p (n + 1)
heard_more p n h = grind arith

heard_all : (p : Part) → set (heard p 4) 4 (identity_byte p 4) ≡ identity_of p
heard_all OneGbit = refl
heard_all TwoGbit = refl

-- one byte more of the identity, as the part gives it
own_bytes : (p : Part) (g : Given) → own_given p g ≡ true → g.bytes ≡ heard p g.count
unfolding own_given
own_bytes p g h = (bytes_eq-Decides g.bytes (heard p g.count)).0 (and_parts _ _ h).1

own_count : (p : Part) (g : Given) → own_given p g ≡ true → g.count < 5
unfolding own_given
own_count p g h = omega (arith, ltb-true g.count 5 (and_parts _ _ h).0)

given_own : (p : Part) (n : ℕ) (bs : List ℕ) → n < 5 → bs ≡ heard p n → own_given p (record { count = n; bytes = bs }) ≡ true
unfolding own_given
given_own p n bs h e = and_from _ _ (lt-ltb n 5 h) ((bytes_eq-Decides bs (heard p n)).1 e)

module _ (p : Part) (g : Given) (own-so-far : own_given p g ≡ true) where
  more : plus g (identity_byte p g.count) ≡ record { count = g.count + 1; bytes = set (heard p g.count) g.count (identity_byte p g.count) }
  more = rw (lt-ltb g.count 5 (own_count p g own-so-far), own_bytes p g own-so-far) refl

  pub next_own : (plus g (identity_byte p g.count)).count < 5 → own_given p (plus g (identity_byte p g.count)) ≡ true
  next_own h =
      let l : g.count < 4 = omega (arith, ap (λ (x : Given). x.count) more) in
      rw more (given_own p (g.count + 1) _ (omega arith) (heard_more p g.count l))

  pub last_own : 5 ≤ (plus g (identity_byte p g.count)).count → (plus g (identity_byte p g.count)).bytes ≡ identity_of p
  last_own h =
      let e : g.count ≡ 4 = omega (arith, own_count p g own-so-far, ap (λ (x : Given). x.count) more) in
      ap (λ (x : Given). x.bytes) more ∙ rw e (heard_all p)
