-- What one cycle does to the pages of a block.
use Rattle.std.proofs.Common.{◌≡◌, ℕ, ◌<◌, cond, ◌⊎◌, Some, None, Option, refl, inl, inr, arith}
use Rattle.flash.specs.Addresses.{page_of}
use Rattle.flash.specs.Records.{pages_after, program_ended, erase_ended, mark_read}
use Rattle.flash.specs.Statuses.{ready, verdict_of}
use Rattle.flash.specs.declared.cycle.Cycle.{Cycle}
use Rattle.flash.specs.declared.record.BlockRecord.{BlockRecord}
use Rattle.flash.specs.declared.record.Pages.{Pages}
use Rattle.flash.specs.declared.record.Pages.TheVariants.{Stale, Blank}
use Rattle.flash.specs.declared.status.Verdict.{Verdict}
use Rattle.flash.specs.declared.status.Verdict.TheVariants.{Good, Failed, Protected}
use Rattle.bus.specs.Laws.{block_in, EraseConfirmed, WorkCutOff, EraseEndedWell}
use Rattle.bus.proofs.Acts.{reset_command, erase_command, erase_row, status_kind, status_byte, status_phase}
use Rattle.bus.proofs.Blocks.{each}
use Rattle.bus.specs.Acts.{act_of}
use Rattle.bus.specs.Bus.{Reader, step, concerns, changed, work_done, work_ended}
use Rattle.bus.specs.States.{blocks_in, allowed_in}
use Rattle.bus.specs.declared.act.Act.{Act}
use Rattle.bus.specs.declared.act.Act.TheVariants as act
use Rattle.bus.specs.declared.state.Work.{Work}
use Rattle.bus.specs.declared.state.Work.TheVariants as work

-- a block's pages before and after a cycle: the same, or stale by a confirmed erase or work cut off,
-- or blank by an erase that ended well, or after a program
pub data Turn (r : Reader) (c : Cycle) (b : ℕ) (p q : Pages) : Type 0 where
  same : q ≡ p → Turn r c b p q
  gone : q ≡ Stale → EraseConfirmed r c b ⊎ WorkCutOff r c b → Turn r c b p q
  blank : q ≡ Blank → EraseEndedWell r c b → Turn r c b p q
  more : (page : ℕ) → b < blocks_in r.bus.part → q ≡ pages_after (allowed_in r.bus.part) p page → Turn r c b p q

-- the end of a program and the read of a mark leave the pages as they are
program_pages : (v : Verdict) (k : BlockRecord) → (program_ended v k).pages ≡ k.pages
program_pages v k = grind arith

mark_pages : (page d : ℕ) (k : BlockRecord) → (mark_read page d k).pages ≡ k.pages
mark_pages page d k = grind arith

module _ (r : Reader) (c : Cycle) (b : ℕ) (k : BlockRecord) where
  erase_turn : (v : Verdict) → (v ≡ Good → EraseEndedWell r c b) → Turn r c b k.pages (erase_ended v k).pages
  erase_turn Good w = blank refl (w refl)
  erase_turn Failed w = same refl
  erase_turn Protected w = same refl

  status_turn : (d : ℕ) (v : Option Work) → r.bus.busy ≡ v → act_of r.bus c ≡ act.Status d → cond (ready d) (work_done v) None ≡ Some b
      → Turn r c b k.pages (work_ended v d k).pages
  status_turn d None i e h = same refl
  status_turn d (Some work.Reset) i e h = same refl
  status_turn d (Some (work.Read x)) i e h = same refl
  status_turn d (Some work.CachePage) i e h = same refl
  status_turn d (Some (work.Program n)) i e h = same (program_pages (verdict_of d) k)
  status_turn d (Some (work.Erase n)) i e h = erase_turn (verdict_of d) (λ g. record {
    status = status_phase r.bus c d e;
    byte = status_kind r.bus c d e;
    erase = grind arith;
    ends = rw (status_byte r.bus c d e) (grind arith);
    good = rw (status_byte r.bus c d e) g;
  })

  act_turn : (a : Act) → act_of r.bus c ≡ a → concerns r.bus a ≡ Some b → b < blocks_in r.bus.part
      → Turn r c b k.pages (changed r.bus a k).pages
  act_turn act.WhileBusy e h l = same refl
  act_turn act.OutOfPlace e h l = same refl
  act_turn act.Reset e h l = gone refl (inr (record { command = reset_command r.bus c e; work = h }))
  act_turn (act.Prepare p g) e h l = same refl
  act_turn (act.Status d) e h l = status_turn d r.bus.busy refl e h
  act_turn (act.Identify bs) e h l = same refl
  act_turn (act.Read x) e h l = same refl
  act_turn (act.Data w s d) e h l = same (mark_pages (page_of w) d k)
  act_turn (act.Erase w) e h l = gone refl (inl (record { command = erase_command r.bus c w e; column = _; row = w; given = erase_row r.bus c w e; block = cc }))
  act_turn (act.Load w s n d) e h l = same refl
  act_turn (act.Program w s f) e h l = more (page_of w) l refl

pub turn : (r : Reader) (c : Cycle) (b : ℕ) → Turn r c b (block_in r b).pages (block_in (step r c) b).pages
unfolding step
turn r c b = each r.blocks b (λ k. Turn r c b (block_in r b).pages k.pages) (same refl) _ _ _ (act_turn r c b (block_in r b) _ refl)
