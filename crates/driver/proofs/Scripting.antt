-- The loop of a run over the steps of a script.
use Rattle.std.proofs.Common.{◌≡◌, ℕ, ◌+◌, ◌<◌, ◌≤◌, List, [], ◌∷◌, ◌++◌, map, length, get_or, take, None, vec_items, Option, sym, refl, ap, ◌∙◌, subst, append_assoc, append-nil, arith}
use mathlib.Core.List.{foldl, map-append}
use Rattle.std.proofs.lemmas.List.{take_more, length-map, length-take-le, take-map}
use Rattle.std.proofs.lemmas.Bool.Decides.{nat_tests}
use Rattle.flash.specs.declared.page.Page.{Page}
use Rattle.bus.specs.Bus.{first}
use Rattle.port.specs.declared.port.Port.{Ghosts}
use Rattle.calls.specs.declared.call.Call.{Call}
use Rattle.calls.specs.declared.call.Call.TheVariants as call
use Rattle.commands.specs.Sent.{Ran}
use Rattle.commands.proofs.Runs.{ran_none}
use Rattle.driver.specs.Called.{view_of, Called}
use Rattle.driver.specs.Outcomes.{done, outcome_at, cycles_at}
use Rattle.driver.specs.Refusals.{port_fault, refusal}
use Rattle.driver.specs.Scripts.{bytes_for, answer_of, asked, asked_in, Followed}
use Rattle.driver.specs.Stages.{session_of, stage_of, Stepped, Made, Rested}
use Rattle.driver.specs.Turns.{surveying, answered, begun, Law, cycles_of}
use Rattle.driver.specs.Turns as turns
use Rattle.driver.specs.declared.script.Answer.{Answer}
use Rattle.driver.specs.declared.script.Step.{Step}
use Rattle.driver.specs.Views.{View}
use Rattle.driver.specs.declared.driver.Driver.{Driver}
use Rattle.driver.specs.declared.stage.Stage.{Stage}
use Rattle.driver.specs.declared.stage.Stage.TheVariants as stage
use Rattle.driver.specs.declared.survey.Survey.{Survey}
use Rattle.driver.proofs.Followings.{Following, opened_view, following_none, following_more}

-- i steps were made
pub record SoFar {X : Type 0} (p : Ghosts X) (n : ℕ) (a : X) (script : List Step) (i : ℕ) (before after : List Answer) (t : Stage X) : Type 0 where
  pub within : i ≤ length script
  pub replies : List turns.Answer
  pub answers : map answer_of after ≡ map answer_of before ++ replies
  pub following : Following p n (take i (map asked script)) replies a (stage_of t) (session_of t)

abbrev pub Scripted : {X : Type 0} → Ghosts X → Stage X → List Step → ℕ → List Answer → List Answer → Stage X → Type 0
Scripted p s script i before after t =
    (n : ℕ) → stage_of s ≡ surveying → view_of (session_of s) ≡ opened_view n → (p.meaning (session_of s).port).reader ≡ first → SoFar p n (session_of s).port script i before after t

module _ {X : Type 0} {p : Ghosts X} (s : Stage X) (script : List Step) where
  pub scripted_none : (before : List Answer) → Scripted p s script 0 before before s
  scripted_none before n st v f = record {
    within = omega arith;
    replies = [];
    answers = sym (append-nil (map answer_of before));
    following = subst (λ z. Following p n [] [] (session_of s).port z (session_of s)) (sym st) (following_none n (session_of s).port (session_of s) refl v f);
  }

  module _ (i : ℕ) (before middle after : List Answer) (t u : Stage X) (k : Scripted p s script i before middle t) where
    -- no memory for a further step
    pub scripted_rest : Rested middle after t u → Scripted p s script i before after u
    scripted_rest r n st v f =
        let x = k n st v f in
        record {
          within = x.within;
          replies = x.replies;
          answers = ap (map answer_of) r.answers ∙ x.answers;
          following = subst (λ z. Following p n (take i (map asked script)) x.replies (session_of s).port (stage_of z) (session_of z)) (sym r.stage) x.following;
        }

    -- one step more
    module _ (h : i < length script) (q : Step) (e : q ≡ get_or script i q) where
      asks_more : take (i + 1) (map asked script) ≡ take i (map asked script) ++ asked q ∷ []
      asks_more =
          take-map asked (i + 1) script
          ∙ (ap (map asked) (take_more script i q h)
          ∙ (map-append asked (take i script) (get_or script i q ∷ [])
          ∙ (ap (λ ys. ys ++ asked (get_or script i q) ∷ []) (sym (take-map asked i script)) ∙ ap (λ y. take i (map asked script) ++ asked y ∷ []) (sym e))))

      pub scripted_more : Made p q middle after t u → Scripted p s script (i + 1) before after u
      scripted_more d n st v f =
          let x = k n st v f in
          record {
            within = omega arith;
            replies = x.replies ++ d.answer ∷ [];
            answers = d.answers ∙ (ap (λ ys. ys ++ d.answer ∷ []) x.answers ∙ append_assoc (map answer_of before) x.replies (d.answer ∷ []));
            following = subst (λ qs. Following p n qs (x.replies ++ d.answer ∷ []) (session_of s).port (stage_of u) (session_of u)) (sym asks_more)
                (subst (λ z. Following p n (take i (map asked script) ++ asked q ∷ []) (x.replies ++ d.answer ∷ []) (session_of s).port z (session_of u)) (sym d.stepped.stage)
                (following_more n (session_of s).port (session_of t) (session_of u) x.following q.call (bytes_for q.call (vec_items q.bytes)) d.answer d.stepped.turned));
          }

  -- the run is over
  pub followed : (i : ℕ) (before after : List Answer) (t : Stage X) (n : ℕ) (a b : X) → Scripted p s script i before after t
      → stage_of s ≡ surveying → view_of (session_of s) ≡ opened_view n → (session_of s).port ≡ a → (p.meaning a).reader ≡ first → b ≡ (session_of t).port → Followed p n script before after a b
  followed i before after t n a b k st v e f o =
      let x = k n st v (ap (λ (y : X). (p.meaning y).reader) e ∙ f) in
      let w = x.following in
      let m : length w.turns ≡ i =
      (let z : length w.turns ≡ length (map asked_in w.turns) = simp length-map in z) ∙ (ap length w.asked ∙ length-take-le i (map asked script) (simp length-map x.within)) in
      record {
        turns = w.turns;
        asked = w.asked ∙ ap (λ j. take j (map asked script)) (sym m);
        answers = x.answers ∙ ap (λ ys. map answer_of before ++ ys) (sym w.answers);
        ends = w.at;
        law = subst (λ (y : X). Law n (begun (p.meaning y).room) w.turns w.at) e w.law;
        reads = ap (λ (y : X). (p.meaning y).reader) o ∙ w.stands.reads;
        rooms = ap (λ (y : X). (p.meaning y).room) o ∙ w.stands.rooms;
        each = w.each;
        trails = ap (λ (y : X). (p.meaning y).trail) o ∙ (w.trails ∙ ap (λ (y : X). foldl p.moves (p.meaning y).trail (cycles_of w.turns)) e);
      }

-- close puts nothing, and is never refused
no_room_below : (room : ℕ) (o : Option Page) → port_fault room 0 o ≡ None
no_room_below room o = grind (arith, nat_tests)

close_passes : (v : View) (room : ℕ) → refusal v room call.Close 0 ≡ None
unfolding refusal
close_passes v room = no_room_below room None

pub closed : {X : Type 0} {p : Ghosts X} (s : Survey X) (d : Driver X) (c : Call) → c ≡ call.Close → d.session ≡ s.session
    → Stepped p c [] (answered done) (stage.Surveying s) (stage.Driving d)
closed {X} {p} s d c e i =
    subst (λ y. Stepped p y [] (answered done) (stage.Surveying s) (stage.Driving d)) (sym e)
    (record { turned = (refl, subst (λ y. Called p call.Close [] done s.session y) (sym i) made); stage = refl })
  where
    passes : refusal (view_of s.session) (p.meaning s.session.port).room call.Close 0 ≡ None
    passes = close_passes (view_of s.session) (p.meaning s.session.port).room

    made : Called p call.Close [] done s.session s.session
    made = record {
      replies = [];
      answers = sym (ap (λ o. (outcome_at o (view_of s.session) call.Close []).reply) passes);
      views = sym (ap (λ o. (outcome_at o (view_of s.session) call.Close []).view) passes);
      ran = subst (λ cs. Ran p cs s.session.port s.session.port) (sym (ap (λ o. cycles_at o (view_of s.session) call.Close [] []) passes)) (ran_none s.session.port);
    }
