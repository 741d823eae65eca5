-- A settle changes the record of one block and of no other, or of none.
use Rattle.std.proofs.Common.{◌≡◌, ℕ, Bool, true, false, cond, ltb, List, [], get_or, set, Some, None, Option, sym, refl, ap, subst}
use Rattle.std.proofs.lemmas.List.{get_or-set_other}
use Rattle.flash.specs.Records.{first_record, program_ended, erase_ended}
use Rattle.flash.specs.Statuses.{verdict_of}
use Rattle.flash.specs.declared.fault.Fault.{Fault}
use Rattle.flash.specs.declared.page.Page.{Page}
use Rattle.flash.specs.declared.record.BlockRecord.{BlockRecord}
use Rattle.flash.specs.declared.status.Verdict.{Verdict}
use Rattle.bus.specs.Bus.{changed_at}
use Rattle.bus.specs.States.{blocks_in}
use Rattle.port.specs.declared.port.Port.{Ghosts}
use Rattle.commands.specs.Polls.{polled}
use Rattle.calls.specs.Table.{slip_page}
use Rattle.calls.specs.declared.call.Call.TheVariants as call
use Rattle.driver.specs.Called.{view_of, Called, OthersStand}
use Rattle.driver.specs.Outcomes.{Reply, ended_in, settled_by, outcome_at}
use Rattle.driver.specs.Refusals.{refusal}
use Rattle.driver.specs.Views.{View}
use Rattle.driver.specs.declared.session.Session.{Session}
use Rattle.driver.specs.declared.standing.Standing.{Standing}
use Rattle.driver.specs.declared.standing.Standing.TheVariants as standing

none_changed : (ks : List BlockRecord) → OthersStand ks ks
none_changed ks = (0, λ x n. refl)

one_changed : (n b : ℕ) (f : BlockRecord → BlockRecord) (ks : List BlockRecord) → OthersStand ks (changed_at n (Some b) f ks)
one_changed n b f ks = (b, λ x o. by x o (ltb b n))
  where
    by : (x : ℕ) → (x ≡ b → ⊥) → (t : Bool) → get_or (cond t (set ks b (f (get_or ks b first_record))) ks) x first_record ≡ get_or ks x first_record
    by x o true = get_or-set_other ks b x (f (get_or ks b first_record)) first_record o
    by x o false = refl

ended_one : (v : View) (s : Standing) (x : Verdict) → OthersStand v.blocks (ended_in v s x)
ended_one v standing.Ready x = none_changed v.blocks
ended_one v standing.Stuck x = none_changed v.blocks
ended_one v (standing.Erasing b) x = one_changed (blocks_in v.part) b (erase_ended x) v.blocks
ended_one v (standing.Programming p) x = one_changed (blocks_in v.part) p.block (program_ended x) v.blocks
ended_one v (standing.Chaining p) x = none_changed v.blocks

settled_one : (v : View) (p : Page) (x : Option ℕ) → OthersStand v.blocks (settled_by v p x).view.blocks
settled_one v p None = none_changed v.blocks
settled_one v p (Some s) = ended_one v v.standing (verdict_of s)

settle_at : (o : Option Fault) (v : View) (n : ℕ) (rs : List ℕ) → OthersStand v.blocks (outcome_at o v (call.Settle n) rs).view.blocks
settle_at (Some f) v n rs = none_changed v.blocks
settle_at None v n rs = settled_one v (slip_page n) (polled v.polls rs)

pub settle_one : {X : Type 0} {p : Ghosts X} (s t : Session X) (n : ℕ) (a : Reply) → Called p (call.Settle n) [] a s t → OthersStand s.state.blocks t.state.blocks
settle_one {X} {p} s t n a d =
    subst (λ ks. OthersStand s.state.blocks ks) (sym (ap (λ (v : View). v.blocks) d.views))
    (settle_at (refusal (view_of s) (p.meaning s.port).room (call.Settle n) 0) (view_of s) n d.replies)
