-- The loop of a poll: the replies so far are busy, each.
use Rattle.std.proofs.Common.{◌≡◌, ℕ, ◌+◌, ◌<◌, true, List, [], ◌∷◌, ◌++◌, map, length, is_some, Some, None, Option, sym, refl, ap, ◌∙◌, subst, inl, inr, arith, length-append}
use mathlib.Core.List.{map-append}
use Rattle.std.proofs.ByRecursion.{All-push}
use Rattle.std.specs.List.{AllByRecursion}
use Rattle.flash.specs.Statuses.{ready}
use Rattle.flash.specs.declared.fault.Fault.TheVariants.{NoRoom, Timeout}
use Rattle.flash.specs.declared.opcode.Opcode.TheVariants as op
use Rattle.flash.specs.declared.page.Page.{Page}
use Rattle.port.specs.Meanings.{Refused, gave}
use Rattle.port.specs.declared.port.Port.{Ghosts}
use Rattle.commands.specs.Polls.{command, polled, poll_cycles}
use Rattle.commands.specs.Sent.{Ran, Cut, Went, Stopped}
use Rattle.commands.proofs.Polls.{Busy, ends_ready, never_ends, goes_on}
use Rattle.commands.proofs.Runs.{ran_append, cut_refused, cut_later}

-- k busy replies came
pub record Waited {X : Type 0} (p : Ghosts X) (k : ℕ) (a b : X) : Type 0 where
  pub replies : List ℕ
  pub busy : AllByRecursion Busy replies
  pub count : length replies ≡ k
  pub ran : Ran p (map gave replies) a b

module _ {X : Type 0} {p : Ghosts X} where
  pub waited_more : {k s : ℕ} {a b d : X} → Waited p k a b → Ran p (gave s ∷ []) b d → Busy s → Waited p (k + 1) a d
  waited_more {k} {s} w r q = record {
    replies = w.replies ++ s ∷ [];
    busy = All-push Busy w.replies s w.busy q;
    count = length-append w.replies (s ∷ []) ∙ ap (λ n. n + 1) w.count;
    ran = rw map-append (ran_append w.ran r);
  }

  module _ {k n : ℕ} {a b d : X} (asked : Ran p (command op.ReadStatus ∷ []) a b) (w : Waited p k b d) where
    pub ready_now : {s : ℕ} {e : X} → k < n → Ran p (gave s ∷ []) d e → ready s ≡ true → Went p n (poll_cycles n) (λ rs. polled n rs ≡ Some s) a e
    ready_now {s} {e} h t q =
        let m = ends_ready w.replies n s w.busy (omega (arith, w.count)) q in
        record {
          replies = w.replies ++ s ∷ [];
          ready = ap is_some m.0;
          gives = m.0;
          ran = subst (λ zs. Ran p (command op.ReadStatus ∷ map gave zs) a e) (sym m.1) (ran_append asked (rw map-append (ran_append w.ran t)));
        }

    pub timed_out_lem : (page : Option Page) → k ≡ n → Stopped p n page (poll_cycles n) (Timeout page) a d
    timed_out_lem page h =
        let m = never_ends w.replies n w.busy (omega (arith, w.count)) in
        inl (
          refl,
          record {
            replies = w.replies;
            never = m.0;
            all = ap length m.1 ∙ (w.count ∙ h);
            busy = subst (AllByRecursion Busy) (sym m.1) w.busy;
            ran = subst (λ zs. Ran p (command op.ReadStatus ∷ map gave zs) a d) (sym m.1) (ran_append asked w.ran);
          },
        )

    pub ran_out : (page : Option Page) {e : X} → k < n → Refused (p.meaning d) (p.meaning e) → Stopped p n page (poll_cycles n) (NoRoom None) a e
    ran_out page {e} h r =
        inr (
          refl,
          record {
            replies = w.replies;
            cut = subst (λ zs. Cut p (command op.ReadStatus ∷ map gave zs) a e) (sym (goes_on w.replies n w.busy (omega (arith, w.count))))
                (cut_later asked (rw map-append (cut_later w.ran (cut_refused r))));
          },
        )
