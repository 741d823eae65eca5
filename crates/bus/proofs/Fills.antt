-- Records lent to a reader, filled up: the filled list steps as the lent one does.
use Rattle.std.proofs.Common.{◌≡◌, ℕ, ◌-◌, ◌<◌, ◌≤◌, Bool, true, false, cond, ltb, List, ◌++◌, length, get_or, set, replicate, Some, None, Option, sym, refl, ap, ◌∙◌, ⊎_elim, arith, length-set, ltb-true}
use Rattle.std.proofs.lemmas.List.{get_or_append_left, get_or-append_right, get_or-replicate, get_or_past, set-append_left, length-replicate}
use Rattle.std.proofs.lemmas.Bool.{cases_lt}
use Rattle.flash.specs.Records.{first_record}
use Rattle.flash.specs.declared.cycle.Cycle.{Cycle}
use Rattle.flash.specs.declared.record.BlockRecord.{BlockRecord}
use Rattle.bus.proofs.Moves as moves
use Rattle.bus.specs.Acts.{act_of}
use Rattle.bus.specs.Breaches.{how_many, judged}
use Rattle.bus.specs.Bus.{Reader, step, filled, changed_at, record_in, concerns, changed, counted, moved}
use Rattle.bus.specs.States.{blocks_in}
use Rattle.bus.specs.declared.act.Act.{Act}

padding : (n i : ℕ) → get_or (replicate n first_record) i first_record ≡ first_record
padding n i = ⊎_elim (λ h. get_or-replicate n i first_record first_record h) (λ h. get_or_past (replicate n first_record) i first_record (rw length-replicate h)) (cases_lt i n)

filled_get_d : (ks : List BlockRecord) (b : ℕ) → get_or (filled ks) b first_record ≡ get_or ks b first_record
filled_get_d ks b =
    ⊎_elim (λ h. get_or_append_left ks (replicate (2048 - length ks) first_record) first_record b h)
    (λ h. get_or-append_right ks (replicate (2048 - length ks) first_record) (length ks) b first_record refl h
    ∙ (padding (2048 - length ks) (b - length ks) ∙ sym (get_or_past ks b first_record h)))
    (cases_lt b (length ks))

filled_set : (ks : List BlockRecord) (b : ℕ) (k : BlockRecord) → b < length ks → set (filled ks) b k ≡ filled (set ks b k)
filled_set ks b k h =
    set-append_left ks (replicate (2048 - length ks) first_record) b k h
    ∙ ap (λ n. set ks b k ++ replicate (2048 - n) first_record) (sym (length-set ks b k))

changed_if : (t : Bool) (ks : List BlockRecord) (b : ℕ) (f : BlockRecord → BlockRecord) → (t ≡ true → b < length ks)
    → cond t (set (filled ks) b (f (get_or (filled ks) b first_record))) (filled ks) ≡ filled (cond t (set ks b (f (get_or ks b first_record))) ks)
changed_if true ks b f h =
    ap (λ k. set (filled ks) b (f k)) (filled_get_d ks b) ∙ filled_set ks b (f (get_or ks b first_record)) (h refl)
changed_if false ks b f h = refl

filled_changed : (n : ℕ) (o : Option ℕ) (f : BlockRecord → BlockRecord) (ks : List BlockRecord) → n ≤ length ks
    → changed_at n o f (filled ks) ≡ filled (changed_at n o f ks)
filled_changed n None f ks h = refl
filled_changed n (Some b) f ks h = changed_if (ltb b n) ks b f (λ e. omega (arith, ltb-true b n e))

filled_record : (o : Option ℕ) (ks : List BlockRecord) → record_in o (filled ks) ≡ record_in o ks
filled_record None ks = refl
filled_record (Some b) ks = filled_get_d ks b

-- a reader whose records are filled up
abbrev pub full : Reader → Reader
full r = record { bus = r.bus; blocks = filled r.blocks }

pub filled_step : (r : Reader) (c : Cycle) → blocks_in r.bus.part ≤ length r.blocks → step (full r) c ≡ full (step r c)
unfolding step
filled_step r c h =
    let a : Act = act_of r.bus c in
    ap (λ k. record { bus = counted (moved r.bus a) (how_many (judged r.bus k a)); blocks = changed_at (blocks_in r.bus.part) (concerns r.bus a) (changed r.bus a) (filled r.blocks) })
    (filled_record (concerns r.bus a) r.blocks)
    ∙ ap (λ ks. record { bus = counted (moved r.bus a) (how_many (judged r.bus (record_in (concerns r.bus a) r.blocks) a)); blocks = ks })
    (filled_changed (blocks_in r.bus.part) (concerns r.bus a) (changed r.bus a) r.blocks h)

-- the part has no fewer blocks after a step than before
pub blocks_rise : (r : Reader) (c : Cycle) → blocks_in r.bus.part ≤ blocks_in (step r c).bus.part
unfolding step
blocks_rise r c = moves.blocks_rise r.bus (act_of r.bus c)
