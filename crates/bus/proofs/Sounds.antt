-- One step from a sound reader: what becomes of each block's pages, and a sound reader.
use Rattle.std.proofs.Common.{◌≡◌, ℕ, ◌<◌, ◌≤◌, true, ◌⊎◌, List, [], ◌∷◌, replicate, Some, Option, refl, ap, ◌∙◌, inl, inr, ⊎_elim, arith}
use Rattle.std.proofs.lemmas.Bool.{both_ways, lt-ltb}
use Rattle.std.proofs.lemmas.Bool.Decides.{nat_tests}
use Rattle.flash.specs.Addresses.{block_of}
use Rattle.flash.specs.Records.{first_record, pages_after}
use Rattle.flash.specs.declared.address.Row.{Row}
use Rattle.flash.specs.declared.cycle.Cycle.{Cycle}
use Rattle.flash.specs.declared.part.Part.{Part}
use Rattle.flash.specs.declared.record.Pages.{Pages}
use Rattle.flash.specs.declared.record.Pages.TheVariants.{Stale, Blank}
use Rattle.bus.specs.Laws.{block_in, count_of, is_fresh, NoLower, Sound, Freshness, EraseConfirmed, WorkCutOff, EraseEndedWell, EverSound}
use Rattle.bus.proofs.Acts.{row_in_part, erase_row}
use Rattle.bus.proofs.Blocks.{stale_set, first_stale}
use Rattle.bus.proofs.Moves as moves
use Rattle.bus.proofs.Turns.{Turn, turn}
use Rattle.bus.proofs.Turns.Turn.{same, gone, blank, more}
use Rattle.bus.specs.Acts.{act_of}
use Rattle.bus.specs.Bus.{Reader, done, step, steps, moved}
use Rattle.bus.specs.States.{first_bus, blocks_in, allowed_in}
use Rattle.bus.specs.declared.act.Act.{Act}
use Rattle.bus.specs.declared.act.Act.TheVariants as act
use Rattle.bus.specs.declared.state.BusState.{BusState}
use Rattle.bus.specs.declared.state.Setup.TheVariants as setup
use Rattle.bus.specs.declared.state.Work.TheVariants as work

-- a part with blocks allows programs
some_allowed : (o : Option Part) (b : ℕ) → b < blocks_in o → 0 < allowed_in o
some_allowed o b l = grind arith

program_within : (p : Pages) (allowed page : ℕ) → 0 < allowed → count_of p ≤ allowed → count_of (pages_after allowed p page) ≤ allowed
program_within p allowed page l h = grind (arith, nat_tests)

-- fresh pages are no lower than themselves, nor are those after a program
no_lower_same : (p : Pages) → is_fresh p ≡ true → NoLower p p
no_lower_same p f = grind arith

no_lower_program : (p : Pages) (allowed page : ℕ) → is_fresh p ≡ true → NoLower p (pages_after allowed p page)
no_lower_program p allowed page f = grind (arith, nat_tests)

module _ (r : Reader) (c : Cycle) (b : ℕ) {p q : Pages} where
  turn_within : Turn r c b p q → count_of p ≤ allowed_in r.bus.part → count_of q ≤ allowed_in r.bus.part
  turn_within (same e) h = rw e h
  turn_within (gone e w) h = rw e (omega arith)
  turn_within (blank e w) h = rw e (omega arith)
  turn_within (more page l e) h = rw e (program_within p _ page (some_allowed r.bus.part b l) h)

  turn_fresh : Turn r c b p q → (r.bus.busy ≡ Some (work.Erase b) → p ≡ Stale) → is_fresh p ≡ true
      → NoLower p q ⊎ ((q ≡ Stale) × (EraseConfirmed r c b ⊎ WorkCutOff r c b))
  turn_fresh (same e) h f = inl (rw e (no_lower_same p f))
  turn_fresh (gone e w) h f = inr (e, w)
  turn_fresh (blank e w) h f = absurd (both_ways (is_fresh p) (ap is_fresh (h w.erase)) f)
  turn_fresh (more page l e) h f = inl (rw e (no_lower_program p _ page f))

  turn_stale : Turn r c b p q → p ≡ Stale → (q ≡ Stale) ⊎ ((q ≡ Blank) × EraseEndedWell r c b)
  turn_stale (same e) h = inl (e ∙ h)
  turn_stale (gone e w) h = inl e
  turn_stale (blank e w) h = inr (e, w)
  turn_stale (more page l e) h = inl (e ∙ rw h refl)

pub freshness : (r : Reader) (c : Cycle) → Sound r → Freshness r (step r c) c
freshness r c h = record {
  fresh = λ b. turn_fresh r c b (turn r c b) (h.erasing b);
  stale = λ b. turn_stale r c b (turn r c b);
}

-- an erase that begins leaves its block stale, and one that ends well is busy no more
erase_begins : (r : Reader) (a : Act) (w : Row) (b : ℕ) → a ≡ act.Erase w → block_of w ≡ b → block_of w < blocks_in r.bus.part → (block_in (done r a) b).pages ≡ Stale
erase_begins r a w b e i l = rw (e, ← i, lt-ltb (block_of w) (blocks_in r.bus.part) l) (stale_set r.blocks (block_of w))

erase_ends : (r : Reader) (c : Cycle) (b : ℕ) → EraseEndedWell r c b → (moved r.bus (act_of r.bus c)).busy ≡ Some (work.Erase b) → ⊥
erase_ends r c b w e = grind arith

module _ (r : Reader) (c : Cycle) (h : Sound r) where
  still_stale : (b : ℕ) → (step r c).bus.busy ≡ Some (work.Erase b) → r.bus.busy ≡ Some (work.Erase b) → (block_in (step r c) b).pages ≡ Stale
  unfolding step
  still_stale b e i = ⊎_elim (λ s. s) (λ w. absurd (erase_ends r c b w.1 e)) (turn_stale r c b (turn r c b) (h.erasing b i))

  pub sound : Sound (step r c)
  unfolding step
  sound =
      let u : BusState = r.bus in
      let a : Act = act_of u c in
      record {
        within = λ b. omega (arith, turn_within r c b (turn r c b) (h.within b), moves.allowed_rises u a);
        named = λ s k w e. omega (arith, moves.addressed u a s k w (blocks_in u.part) (h.named s k w) (row_in_part u c s k w) e, moves.blocks_rise u a);
        erasing = λ b e. moves.erasing u a b (block_in (done r a) b).pages (still_stale b e)
            (λ w i j. erase_begins r a w b i j (h.named setup.Erase _ w (erase_row u c w i))) e;
      }

sound_on : (cs : List Cycle) (r : Reader) → Sound r → Sound (steps r cs)
sound_on [] r h = h
sound_on (c ∷ cs) r h = sound_on cs (step r c) (sound r c h)

-- from a first state on, whatever the number of records
module _ (n : ℕ) where
  first_sound : Sound (record { bus = first_bus; blocks = replicate n first_record })
  first_sound = record {
    within = λ b. rw (first_stale n b) (omega arith);
    named = λ s k w e. let z : ◌≡◌ {A = ℕ} 0 1 = cc in absurd (omega arith);
    erasing = λ b e. first_stale n b;
  }

  pub ever_sound : EverSound (record { bus = first_bus; blocks = replicate n first_record })
  ever_sound cs = sound_on cs _ first_sound
