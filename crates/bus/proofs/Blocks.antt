-- The records after a change of one block.
use Rattle.std.proofs.Common.{◌≡◌, ℕ, ◌<◌, ◌≤◌, true, ltb, List, length, get_or, set, replicate, Some, None, Option, sym, refl, ap, subst, inl, inr, ⊎_elim, arith}
use Rattle.std.proofs.lemmas.List.{get_or-set_same, get_or-set_other, get_or-replicate, get_or_past, set_past, length-replicate}
use Rattle.std.proofs.lemmas.Bool.{cases_lt, cases_eq, cond_both, ltb-true}
use Rattle.flash.specs.Records.{first_record, stale}
use Rattle.flash.specs.declared.cycle.Cycle.{Cycle}
use Rattle.flash.specs.declared.record.BlockRecord.{BlockRecord}
use Rattle.flash.specs.declared.record.Pages.TheVariants.{Stale}
use Rattle.bus.specs.Laws.{Records, block_in, may_change}
use Rattle.bus.specs.Bus.{Reader, changed_at}
use Rattle.bus.specs.declared.state.BusState.{BusState}

module _ (ks : List BlockRecord) (k : ℕ) (P : BlockRecord → Type 0) (kept : P (get_or ks k first_record)) where
  here : (b : ℕ) (x : BlockRecord) → k ≡ b → P x → P (get_or (set ks b x) k first_record)
  here b x e new =
      ⊎_elim (λ l. rw (e, get_or-set_same ks b x first_record l) new) (λ l. rw (set_past ks b x l) kept) (cases_lt b (length ks))

  at_set : (b : ℕ) (x : BlockRecord) → (k ≡ b → P x) → P (get_or (set ks b x) k first_record)
  at_set b x new = ⊎_elim (λ e. here b x e (new e)) (λ n. rw (get_or-set_other ks b k x first_record n) kept) (cases_eq k b)

  -- a block's record is as it was, or it is the block that is changed, and in the part
  pub each : (n : ℕ) (o : Option ℕ) (f : BlockRecord → BlockRecord)
      → (o ≡ Some k → k < n → P (f (get_or ks k first_record))) → P (get_or (changed_at n o f ks) k first_record)
  each n None f new = kept
  each n (Some b) f new =
      cond_both (ltb b n) _ _ (λ l. P (get_or l k first_record))
      (λ t. at_set b _ (λ e. subst (λ i. P (f (get_or ks i first_record))) e (new (ap Some (sym e)) (omega (arith, ltb-true b n t)))))
      (λ t. kept)

-- a block that is made stale is so, past the list's end too
pub stale_set : (ks : List BlockRecord) (b : ℕ) → (get_or (set ks b (stale (get_or ks b first_record))) b first_record).pages ≡ Stale
stale_set ks b =
    ⊎_elim
    (λ l. rw (get_or-set_same ks b (stale (get_or ks b first_record)) first_record l) refl)
    (λ l. rw (set_past ks b (stale (get_or ks b first_record)) l, get_or_past ks b first_record l) refl)
    (cases_lt b (length ks))

-- all records stay, or all but one do
pub one_block : (r : Reader) (c : Cycle) (u : BusState) (n : ℕ) (f : BlockRecord → BlockRecord) (o : Option ℕ)
    → ((b : ℕ) → o ≡ Some b → may_change r.bus.phase c ≡ true) → Records r (record { bus = u; blocks = changed_at n o f r.blocks }) c
one_block r c u n f None may = inl refl
one_block r c u n f (Some b) may =
    inr (may b refl, (b, record { others = λ k other. each r.blocks k (λ x. x ≡ block_in r k) refl n (Some b) f (λ e l. absurd (other (cc))) }))

-- at first every block is stale
pub first_stale : (n b : ℕ) → (get_or (replicate n first_record) b first_record).pages ≡ Stale
first_stale n b =
    ⊎_elim
    (λ (l : b < n). rw (get_or-replicate n b first_record first_record l) refl)
    (λ (l : n ≤ b). rw (get_or_past (replicate n first_record) b first_record (rw length-replicate l)) refl)
    (cases_lt b n)
