-- The bus reader tells every call of the table.
use Rattle.std.proofs.Common.{◌≡◌, ℕ, ◌≤◌, List, [], ◌∷◌, length, Option, sym, refl, ap, ◌∙◌, subst, arith}
use Rattle.flash.specs.declared.cycle.Cycle.{Cycle}
use Rattle.flash.specs.declared.part.Part.{Part}
use Rattle.bus.specs.Bus.{Reader, step, steps}
use Rattle.events.specs.Events.{Telling, follow, follows}
use Rattle.calls.specs.Afters.{after}
use Rattle.calls.specs.Deeds.{at_rest}
use Rattle.calls.specs.Table.{cycles}
use Rattle.calls.specs.Told.{Told, ToldBack, Fits, Rests, Begins}
use Rattle.calls.specs.declared.call.Call.{Call}
use Rattle.calls.specs.declared.call.Call.TheVariants as call
use Rattle.calls.proofs.Goes.{telling}
use Rattle.calls.proofs.Tables.{call_runs}

follow_reader : (t : Telling) (c : Cycle) → (follow t c).reader ≡ step t.reader c
unfolding follow
follow_reader t c = refl

follows_reader : (cs : List Cycle) (t : Telling) → (follows t cs).reader ≡ steps t.reader cs
follows_reader [] t = refl
follows_reader (c ∷ cs) t = follows_reader cs (follow t c) ∙ ap (λ r. steps r cs) (follow_reader t c)

told_from : (n : ℕ) (c : Call) (bs rs : List ℕ) (r : Reader) (k : ℕ) → r.bus.breaches ≤ 65535 → Fits r.bus.part c (length bs) → Begins c r → Told n c bs rs (telling r [] k)
told_from n c bs rs r k m i s =
    let x = call_runs n c bs rs r r.bus.part refl m i s k in
    record { tells = x.tells; leaves = sym (follows_reader (cycles r.bus.part n c bs rs) (telling r [] k)) ∙ ap (λ (t : Telling). t.reader) x.follows }

rests : (o : Option Part) → Rests (at_rest o).reader
rests o = record { idle = refl; quiet = refl; closed = refl }

-- a reader at rest is one where every call may begin
begins : (o : Option Part) (c : Call) → Begins c (at_rest o).reader
begins o call.Identify = tt
begins o (call.Look p) = rests o
begins o call.Close = tt
begins o (call.Read p c len) = rests o
begins o (call.Erase b) = rests o
begins o (call.Program p c) = rests o
begins o (call.CacheFirst p c) = rests o
begins o (call.CacheNext s g c) = record { quiet = refl; chain = refl }
begins o (call.CacheLast s g c) = record { quiet = refl; chain = refl }
begins o (call.Copy p q) = rests o
begins o (call.Settle s) = refl
begins o (call.Abandon s) = tt
begins o call.Reset = tt
begins o (call.Pick b) = tt
begins o (call.Record b) = tt

pub told_back : (o : Option Part) (n : ℕ) (c : Call) → ToldBack o n c
told_back o n c = record {
  told = λ bs rs t e h m i s. subst (λ hand. Told n c bs rs (record { reader = t.reader; hand = hand; cycles = t.cycles })) (sym h)
      (told_from n c bs rs t.reader t.cycles m (subst (λ x. Fits x c (length bs)) (sym e) i) s);
  decoded = λ bs rs i. (told_from n c bs rs (at_rest o).reader 0 (omega arith) i (begins o c)).tells;
}

-- the reader after a call's cycles
pub call_leaves : (n : ℕ) (c : Call) (bs rs : List ℕ) (r : Reader) → r.bus.breaches ≤ 65535 → Fits r.bus.part c (length bs) → Begins c r
    → steps r (cycles r.bus.part n c bs rs) ≡ after n c bs rs r
call_leaves n c bs rs r m i s = (told_from n c bs rs r 0 m i s).leaves
