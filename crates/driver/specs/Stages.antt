-- A session at its stage, and one turn of it.
use Rattle.std.specs.Prelude.{◌≡◌, ℕ, List, [], ◌∷◌, ◌++◌, map, vec_items}
use Rattle.port.specs.declared.port.Port.{Ghosts}
use Rattle.calls.specs.declared.call.Call.{Call}
use Rattle.driver.specs.Scripts.{bytes_for, answer_of, Turned}
use Rattle.driver.specs.Turns.{stage_after, surveying, driving}
use Rattle.driver.specs.Turns as turns
use Rattle.driver.specs.declared.script.Answer.{Answer}
use Rattle.driver.specs.declared.script.Step.{Step}
use Rattle.driver.specs.declared.session.Session.{Session}
use Rattle.driver.specs.declared.stage.Stage.{Stage}
use Rattle.driver.specs.declared.stage.Stage.TheVariants as stage

abbrev pub session_of : {P : Type 0} → Stage P → Session P
session_of (stage.Surveying s) = s.session
session_of (stage.Driving d) = d.session

abbrev pub stage_of : {P : Type 0} → Stage P → turns.Stage
stage_of (stage.Surveying s) = surveying
stage_of (stage.Driving d) = driving

-- a call was made, or passed over, and the session goes on from its stage
pub record Stepped {X : Type 0} (p : Ghosts X) (c : Call) (bs : List ℕ) (b : turns.Answer) (s t : Stage X) : Type 0 where
  pub turned : Turned p (stage_of s) c (bytes_for c bs) b (session_of s) (session_of t)
  pub stage : stage_of t ≡ stage_after (stage_of s) c

-- a step of a script was made, and its answer added to those before
pub record Made {X : Type 0} (p : Ghosts X) (q : Step) (before after : List Answer) (s t : Stage X) : Type 0 where
  pub answer : turns.Answer
  pub answers : map answer_of after ≡ map answer_of before ++ answer ∷ []
  pub stepped : Stepped p q.call (vec_items q.bytes) answer s t

-- nothing was done
pub record Rested {X : Type 0} (before after : List Answer) (s t : Stage X) : Type 0 where
  pub answers : after ≡ before
  pub stage : t ≡ s
