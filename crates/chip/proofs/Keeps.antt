-- One cycle keeps the law of the memory.
use Rattle.std.proofs.Common.{◌≡◌, ℕ, ◌*◌, true, false, ◌&&◌, List, refl, arith}
use Rattle.std.proofs.lemmas.Bool.Decides.{nat_tests}
use Rattle.flash.specs.Addresses.{block_of}
use Rattle.flash.specs.Statuses.{ready}
use Rattle.flash.specs.declared.cycle.Cycle.{Cycle}
use Rattle.bus.specs.Acts.{act_of}
use Rattle.bus.specs.Bus.{Reader, breaches_of}
use Rattle.bus.specs.declared.act.Act.{Act}
use Rattle.bus.specs.declared.act.Act.TheVariants as act
use Rattle.bus.specs.declared.state.BusState.{BusState}
use Rattle.chip.specs.Cells.{block_erased, row_programmed}
use Rattle.chip.specs.Chips.{Chip, chip_step, cells_after, page_after}
use Rattle.chip.specs.Kept.{Kept, Programmed, Erased, confirms, fills_page, copies, works}
use Rattle.chip.proofs.Alterations.{blanked_cell, blanked_else, anded_cell, anded_else, row_cell}

programmed : (cells page : List ℕ) (row : ℕ) → Programmed cells page (row_programmed row page cells) row
programmed cells page row = record { here = anded_cell (2112 * row) 2112 cells page; elsewhere = anded_else (2112 * row) 2112 cells page }

erased : (cells : List ℕ) (block : ℕ) → Erased cells (block_erased block cells) block
erased cells block = record { here = blanked_cell (135168 * block) 135168 cells; elsewhere = blanked_else (135168 * block) 135168 cells }

is_busy : (r : Reader) (a : Act) → (breaches_of r a).while_busy ≡ true → a ≡ act.WhileBusy
is_busy r a h = grind arith

is_misplaced : (r : Reader) (a : Act) → (breaches_of r a).out_of_place ≡ true → a ≡ act.OutOfPlace
is_misplaced r a h = grind arith

confirm_works : (r : Reader) (c : Cycle) → confirms c ≡ true → (breaches_of r (act_of r.bus c)).while_busy ≡ false → (breaches_of r (act_of r.bus c)).out_of_place ≡ false
    → works (act_of r.bus c) ≡ true
confirm_works r c h b o = grind (arith, nat_tests)

no_copy : (u : BusState) (b : ℕ) (cells page : List ℕ) → (ready b && copies u.busy) ≡ false → page_after u (act.Status b) cells page ≡ page
no_copy u b cells page h = grind (arith, nat_tests)

no_confirm : (u : BusState) (c : Cycle) (page cells : List ℕ) → confirms c ≡ false → cells_after (act_of u c) page cells ≡ cells
no_confirm u c page cells h = grind (arith, nat_tests)

page_waits : (u : BusState) (c : Cycle) (cells page : List ℕ) → fills_page u.phase c ≡ false → page_after u (act_of u c) cells page ≡ page
page_waits u c cells page h = grind (arith, nat_tests)

pub kept : (statuses : List ℕ) (k : Chip) (c : Cycle) → Kept k (chip_step statuses k c) c
unfolding chip_step
kept statuses k c = record {
  while_busy = λ h. rw (is_busy k.reader (act_of k.reader.bus c) h) refl;
  out_of_place = λ h. rw (is_misplaced k.reader (act_of k.reader.bus c) h) refl;
  taken = confirm_works k.reader c;
  others = no_confirm k.reader.bus c k.memory.page k.memory.cells;
  programs = λ w s f e. rw e (programmed k.memory.cells k.memory.page w.number);
  erases = λ w e. rw e (erased k.memory.cells (block_of w));
  waits = page_waits k.reader.bus c k.memory.cells k.memory.page;
  rests = λ b e h. rw e (no_copy k.reader.bus b k.memory.cells k.memory.page h);
  begins = λ g e. rw e refl;
  loads = λ w s n b e. rw e refl;
  copied = λ x b e r i t j h. rw (e, r, i, t) (row_cell (2112 * x.row.number) k.memory.cells j 0 h);
}
