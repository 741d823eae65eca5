-- What the owner of a tape or of a model chip sees after a run.
use Rattle.std.specs.Prelude.{◌≡◌, ℕ, ◌≤◌, Bool, false, List, [], ◌∷◌, map, nat_eq}
use Rattle.flash.specs.Faults.{number_of}
use Rattle.flash.specs.Parts.{blocks_of}
use Rattle.flash.specs.declared.part.Part.{Part}
use Rattle.bus.specs.Bus.{first}
use Rattle.port.specs.Meanings.{code}
use Rattle.port.specs.Tapes.{taped, appended, written_on}
use Rattle.port.specs.declared.port.Port.{Ghosts}
use Rattle.port.specs.declared.tape.Tape.{Tape}
use Rattle.chip.specs.Models.{means_of, unmoved}
use Rattle.chip.specs.declared.model.ModelChip.{ModelChip}
use Rattle.driver.specs.Laws.{refused_with}
use Rattle.driver.specs.Outcomes.{Reply}
use Rattle.driver.specs.Scripts.{Followed}
use Rattle.driver.specs.Turns.{Turn, answered, not_offered, cycles_of}
use Rattle.driver.specs.Turns as turns
use Rattle.driver.specs.declared.script.Answer.{Answer}
use Rattle.driver.specs.declared.script.Step.{Step}

-- a tape as a port
abbrev pub tapes : Ghosts Tape
tapes = record { meaning = λ t. taped t.places.now t.next; moves = appended }

-- the law of every run, from a tape with so many places left and none written; the cycles written, as
-- numbers, are those of all turns in order
pub record OnTape (n : ℕ) (script : List Step) (before after : List Answer) (places : ℕ) (r : Tape) : Type 0 where
  pub start : Tape
  pub begins : taped start.places.now start.next ≡ record { reader = first; room = places; trail = [] }
  pub followed : Followed tapes n script before after start r
  pub holds : map code (written_on r) ≡ map code (cycles_of followed.turns)

-- a model chip as a port
abbrev pub chips : Ghosts ModelChip
chips = record { meaning = means_of; moves = unmoved }

-- refused for want of room
abbrev pub full_reply : Reply → Bool
full_reply a = refused_with (λ f. nat_eq (number_of f) 13) a

abbrev pub full_answer : turns.Answer → Bool
full_answer (answered a) = full_reply a
full_answer not_offered = false

abbrev pub NeverFull : List Turn → Type 0
NeverFull [] = Unit {0}
NeverFull (x ∷ xs) = (full_answer x.answer ≡ false) × NeverFull xs

-- the law of every run, from a new chip; lent a record for each block of its part, it turns no call
-- away for want of room
pub record OnChip (part : Part) (n : ℕ) (script : List Step) (before after : List Answer) (blocks : ℕ) (r : ModelChip) : Type 0 where
  pub start : ModelChip
  pub followed : Followed chips n script before after start r
  pub roomy : blocks_of part ≤ blocks → NeverFull followed.turns
