-- A model chip keeps the contract of a port, and its bus stays its own.
use Rattle.std.proofs.Common.{◌≡◌, ℕ, ◌+◌, ◌-◌, ◌<◌, ◌≤◌, true, cond, List, [], ◌++◌, length, get_or, replicate, sym, refl, ap, ◌∙◌, subst, ⊎_elim, arith, Fits, w8}
use Rattle.std.proofs.lemmas.Bool.{and_parts, leb-true, cases_lt}
use Rattle.std.proofs.lemmas.List.{length-replicate, replicate-append-replicate, get_or_default, get_or_past}
use Rattle.flash.specs.Parts.{blocks_of}
use Rattle.flash.specs.Records.{first_record}
use Rattle.flash.specs.declared.cycle.Cycle.{Cycle}
use Rattle.flash.specs.declared.part.Part.{Part}
use Rattle.bus.specs.Bus.{Reader, step, filled}
use Rattle.bus.specs.Readers.{held, meant}
use Rattle.bus.specs.States.{blocks_in}
use Rattle.bus.specs.declared.reader.BusReader.{BusReader}
use Rattle.port.specs.Meanings.{Stepped, driven, gave}
use Rattle.port.specs.declared.port.HostCycle.{HostCycle}
use Rattle.chip.specs.Cells.{cell_at}
use Rattle.chip.specs.Chips.{Chip, chip_step, answer, own, own_part, own_phase, enough, room_for}
use Rattle.chip.specs.Models.{unmoved}
use Rattle.chip.proofs.Owns.{own_blocks, put_own, take_own}
use Rattle.chip.proofs.Steps.{step_length}

module _ (p : Part) (statuses : List ℕ) (k l : Chip) where
  pub put_stays : (c : HostCycle) → l ≡ chip_step statuses k (driven c) → own p k.reader.bus ≡ true → own p l.reader.bus ≡ true
  unfolding chip_step step
  put_stays c ran h = subst (λ (x : Chip). own p x.reader.bus ≡ true) (sym ran) (put_own p k.reader.bus c h)

  pub take_stays : (b : ℕ) → b ≡ answer p k.reader.bus k.memory → l ≡ chip_step statuses k (gave b) → own p k.reader.bus ≡ true → own p l.reader.bus ≡ true
  unfolding chip_step step
  take_stays b gives ran h =
      subst (λ (x : Chip). own p x.reader.bus ≡ true) (sym (ran ∙ ap (λ x. chip_step statuses k (gave x)) gives)) (take_own p k.reader.bus k.memory h)

full_room : (p : Part) (n : ℕ) → enough p n ≡ true → room_for p n ≡ 65535
full_room p n h = ap (λ b. cond b 65535 0) h

module _ (p : Part) (k l : BusReader) (c : Cycle) where
  pub chip_stepped : held l ≡ step (held k) c → (blocks_in l.bus.part ≤ length k.blocks.now → meant l ≡ step (meant k) c)
      → own p l.bus ≡ true → enough p (length k.blocks.now) ≡ true
      → Stepped unmoved c (record { reader = meant k; room = room_for p (length k.blocks.now); trail = [] }) (record { reader = meant l; room = room_for p (length l.blocks.now); trail = [] })
  chip_stepped ran means its_own room =
      let long : length l.blocks.now ≡ length k.blocks.now = ap (λ (r : Reader). length r.blocks) ran ∙ step_length (held k) c in
      let most : blocks_in l.bus.part ≤ blocks_of p = own_blocks p l.bus.part (and_parts (own_part p l.bus.part) (own_phase p l.bus.phase) its_own).0 in
      let still : enough p (length l.blocks.now) ≡ true = rw long room in
      let before = full_room p (length k.blocks.now) room in
      let after = full_room p (length l.blocks.now) still in
      record {
        had = omega (arith, before);
        reads = means (omega (arith, most, leb-true _ _ room));
        trails = refl;
        least = omega (arith, before, after);
        most = omega (arith, before, after);
      }

-- at first
pub first_filled : (n : ℕ) → n ≤ 2048 → filled (replicate n first_record) ≡ replicate 2048 first_record
first_filled n h =
    ap (λ m. replicate n first_record ++ replicate (2048 - m) first_record) (length-replicate n first_record)
    ∙ (replicate-append-replicate n (2048 - n) first_record ∙ ap (λ m. replicate m first_record) (let e : n + (2048 - n) ≡ 2048 = omega arith in e))

-- cells hold bytes
pub bytes_held : (cells : List ℕ) → ((i : ℕ) → Fits w8 (get_or cells i 0)) → (i : ℕ) → cell_at cells i < 256
bytes_held cells h i =
    ⊎_elim
    (λ l. rw (get_or_default cells i 0xFF 0 l) (h i).fits)
    (λ l. rw (get_or_past cells i 0xFF l) (omega arith))
    (cases_lt i (length cells))
