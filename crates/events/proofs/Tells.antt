-- Lists of things told, put together.
use Rattle.std.proofs.Common.{◌≡◌, ℕ, ◌+◌, ◌<◌, ◌≤◌, List, [], ◌∷◌, ◌++◌, map, length, get_or, take, sym, refl, ap, ◌∙◌, append_assoc, append-nil}
use mathlib.Core.List.{foldl-append}
use Rattle.std.proofs.lemmas.List.{take_more, take_all}
use Rattle.flash.specs.declared.cycle.Cycle.{Cycle}
use Rattle.bus.specs.Acts.{act_of}
use Rattle.bus.specs.Breaches.{named}
use Rattle.bus.specs.Bus.{Reader, step}
use Rattle.bus.specs.Readers.{told}
use Rattle.bus.specs.declared.reader.Told.{Told}
use Rattle.events.specs.Tellers as Tellers
use Rattle.events.specs.Tellers.{thing}
use Rattle.events.specs.declared.event.Event.{Event}
use Rattle.events.specs.Events.{Thing, broke, happened, hand_after, Telling, later, tells, follow, follows, events}

module _ (t : Telling) (c : Cycle) where
  pub followed : (r : Reader) (h : List ℕ) (n : ℕ) → r ≡ step t.reader c → h ≡ hand_after (act_of t.reader.bus c) t.hand → n ≡ later t.cycles
      → record { reader = r; hand = h; cycles = n } ≡ follow t c
  unfolding follow
  followed r h n p q s = cc

  -- the rules broken are told, then what happened
  pub told_then : (x y z : List Thing) (d : Told) (hand : List ℕ) → d ≡ told t.reader c → hand ≡ t.hand
      → y ≡ x ++ map (broke (later t.cycles)) (named d.breaches) → z ≡ y ++ happened (later t.cycles) d.act hand → z ≡ x ++ (tells t c ++ [])
  unfolding tells
  told_then x y z d hand p q h k = k ∙ rw (h, p, q) (simp (append_assoc, append-nil))

events_append : (t : Telling) (cs ds : List Cycle) → events t (cs ++ ds) ≡ events t cs ++ events (follows t cs) ds
events_append t [] ds = refl
events_append t (c ∷ cs) ds = ap (λ l. tells t c ++ l) (events_append (follow t c) cs ds) ∙ sym (append_assoc (tells t c) (events (follow t c) cs) (events (follows (follow t c) cs) ds))

pub told_none : (t : Telling) (x : List Event) → Tellers.Told t t [] x x
told_none t x = record { stands = refl; tells = sym (append-nil (map thing x)) }

pub told_append : {t u v : Telling} {cs ds : List Cycle} {x y z : List Event} → Tellers.Told t u cs x y → Tellers.Told u v ds y z → Tellers.Told t v (cs ++ ds) x z
told_append {t} {u} {v} {cs} {ds} {x} {y} {z} p q = record {
  stands = q.stands ∙ (ap (λ w. follows w ds) p.stands ∙ sym (foldl-append follow t cs ds));
  tells = q.tells ∙ (ap (λ l. l ++ events u ds) p.tells
      ∙ (append_assoc (map thing x) (events t cs) (events u ds)
      ∙ ap (λ l. map thing x ++ l) (ap (λ w. events t cs ++ events w ds) p.stands ∙ sym (events_append t cs ds))));
}

-- one cycle more of a list, and all of it
pub told_more : {t u v : Telling} {x y z : List Event} (cs : List Cycle) (i : ℕ) (d : Cycle) → i < length cs
    → Tellers.Told t u (take i cs) x y → Tellers.Told u v (get_or cs i d ∷ []) y z → Tellers.Told t v (take (i + 1) cs) x z
told_more cs i d h p q = rw (take_more cs i d h) (told_append p q)

pub told_all : {t u : Telling} {x y : List Event} (cs : List Cycle) (i : ℕ) → length cs ≤ i → Tellers.Told t u (take i cs) x y → Tellers.Told t u cs x y
told_all cs i h p = rw (take_all i cs h) at p

-- a front of the list was told, and then nothing
pub told_stopped : {t u v : Telling} {x y z : List Event} (cs : List Cycle) (i : ℕ) → i < length cs
    → Tellers.Told t u (take i cs) x y → Tellers.Told u v [] y z → Tellers.ToldFront t v cs x z
told_stopped {t} {u} {v} {x} {y} {z} cs i h p q = record { count = i; fewer = h; told = rw append-nil at (told_append p q) }
