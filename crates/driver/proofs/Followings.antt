-- The loop of a run.
use Rattle.std.proofs.Common.{◌≡◌, ℕ, List, [], ◌∷◌, ◌++◌, map, replicate, None, sym, refl, ap, ◌∙◌, subst}
use mathlib.Core.List.{foldl, foldl-append, map-append}
use Rattle.flash.specs.Records.{first_record}
use Rattle.bus.specs.Bus.{first}
use Rattle.bus.specs.declared.state.Phase.TheVariants as phase
use Rattle.port.specs.declared.port.Port.{Ghosts}
use Rattle.calls.specs.declared.call.Call.{Call}
use Rattle.driver.specs.Called.{view_of}
use Rattle.driver.specs.Scripts.{Turned, asked_in, answer_in, Rooms}
use Rattle.driver.specs.Turns.{Stage, surveying, offers, stage_after, answered, not_offered, Turn, Where, begun, advanced, Law, cycles_of}
use Rattle.driver.specs.Turns as turns
use Rattle.driver.specs.Views.{View}
use Rattle.driver.specs.declared.session.Session.{Session}
use Rattle.driver.specs.declared.standing.Standing.TheVariants as standing
use Rattle.driver.proofs.Holds.{Held}
use Rattle.driver.proofs.Runs.{Stands, GoesOn, turned, offered_goes, passed_over, not_offered_goes, law_push, cycles_push}

-- the calls qs were made of a session opened on the port a, and it is now at this stage
pub record Following {X : Type 0} (p : Ghosts X) (n : ℕ) (qs : List (Call × List ℕ)) (rs : List turns.Answer) (a : X) (st : Stage) (s : Session X) : Type 0 where
  pub turns : List Turn
  pub asked : map asked_in turns ≡ qs
  pub answers : map answer_in turns ≡ rs
  pub at : Where
  pub law : Law n (begun (p.meaning a).room) turns at
  pub stands : Stands p n at s
  pub stage : at.stage ≡ st
  pub each : Rooms p turns
  pub trails : (p.meaning s.port).trail ≡ foldl p.moves (p.meaning a).trail (cycles_of turns)

rooms_push : {X : Type 0} (p : Ghosts X) (xs : List Turn) (x : Turn) → Rooms p xs → (y : X) × ((p.meaning y).room ≡ x.room) → Rooms p (xs ++ x ∷ [])
rooms_push p [] x r y = (y, tt)
rooms_push p (z ∷ xs) x r y = (r.0, rooms_push p xs x r.1 y)

-- a survey that was just opened
abbrev pub opened_view : ℕ → View
opened_view n = record { part = None; polls = n; blocks = replicate 2048 first_record; standing = standing.Ready }

opened_held : {n : ℕ} → Held (opened_view n) first
opened_held = record { phase = phase.Quiet; busy = None; register = None; chain = None; calm = refl; works = (refl, refl); is = refl }

module _ {X : Type 0} {p : Ghosts X} (n : ℕ) (a : X) where
  pub following_none : (s : Session X) → s.port ≡ a → view_of s ≡ opened_view n → (p.meaning a).reader ≡ first → Following p n [] [] a surveying s
  following_none s e v f = record {
    turns = [];
    asked = refl;
    answers = refl;
    at = begun (p.meaning a).room;
    law = refl;
    stands = record {
      reads = ap (λ (x : X). (p.meaning x).reader) e ∙ f;
      rooms = ap (λ (x : X). (p.meaning x).room) e;
      held = subst (λ x. Held x first) (sym v) opened_held;
      polls = ap (λ (x : View). x.polls) v;
      stands = ap (λ (x : View). x.standing) v;
      slips = refl;
    };
    stage = refl;
    each = tt;
    trails = ap (λ (x : X). (p.meaning x).trail) e;
  }

  -- one turn more
  module _ {qs : List (Call × List ℕ)} {rs : List turns.Answer} {st : Stage} (s t : Session X) (k : Following p n qs rs a st s) (c : Call) (bs : List ℕ) where
    goes : (x : Turn) → x.call ≡ c → x.bytes ≡ bs → GoesOn p n k.at x s t → Following p n (qs ++ (c, bs) ∷ []) (rs ++ x.answer ∷ []) a (stage_after st c) t
    goes x e i g = record {
      turns = k.turns ++ x ∷ [];
      asked = map-append asked_in k.turns (x ∷ []) ∙ (ap (λ ys. ys ++ asked_in x ∷ []) k.asked ∙ (ap (λ y. qs ++ (y, x.bytes) ∷ []) e ∙ ap (λ y. qs ++ (c, y) ∷ []) i));
      answers = map-append answer_in k.turns (x ∷ []) ∙ ap (λ ys. ys ++ x.answer ∷ []) k.answers;
      at = advanced k.at x (p.meaning t.port).room;
      law = law_push n k.turns (begun (p.meaning a).room) k.at x (p.meaning t.port).room k.law g.lawful;
      stands = g.stands;
      stage = ap (λ y. stage_after y x.call) k.stage ∙ ap (stage_after st) e;
      each = rooms_push p k.turns x k.each (s.port, k.stands.rooms ∙ sym g.lawful.room_before);
      trails = g.trails ∙ (ap (λ y. foldl p.moves y x.cycles) k.trails
          ∙ (sym (foldl-append p.moves (p.meaning a).trail (cycles_of k.turns) x.cycles) ∙ ap (foldl p.moves (p.meaning a).trail) (sym (cycles_push k.turns x))));
    }

    pub following_more : (b : turns.Answer) → Turned p st c bs b s t → Following p n (qs ++ (c, bs) ∷ []) (rs ++ b ∷ []) a (stage_after st c) t
    unfolding turned passed_over
    following_more (answered r) d =
        goes (turned n k.at s t k.stands c bs r d.1) refl refl (offered_goes n k.at s t k.stands c bs r d.1 (ap (λ y. offers y c) k.stage ∙ d.0))
    following_more not_offered d =
        goes (passed_over n k.at s k.stands c bs) refl refl
        (subst (λ y. GoesOn p n k.at (passed_over n k.at s k.stands c bs) s y) (sym d.1) (not_offered_goes n k.at s k.stands c bs (ap (λ y. offers y c) k.stage ∙ d.0)))
