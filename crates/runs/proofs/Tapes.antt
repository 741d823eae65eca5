-- What a tape holds after a run.
use Rattle.std.proofs.Common.{◌≡◌, ℕ, List, [], ◌∷◌, ◌++◌, map, sym, ap, ◌∙◌, append_assoc, append-nil}
use mathlib.Core.List.{foldl}
use Rattle.flash.specs.declared.cycle.Cycle.{Cycle}
use Rattle.bus.specs.Bus.{first}
use Rattle.port.specs.Meanings.{Meaning, code}
use Rattle.port.specs.Tapes.{taped, appended}
use Rattle.port.specs.declared.tape.Tape.{Tape}
use Rattle.driver.specs.Scripts.{Followed}
use Rattle.driver.specs.Turns.{cycles_of}
use Rattle.driver.specs.declared.script.Answer.{Answer}
use Rattle.driver.specs.declared.script.Step.{Step}
use Rattle.runs.specs.Owners.{tapes, OnTape}

appended_all : (cs : List Cycle) (t : List ℕ) → foldl appended t cs ≡ t ++ map code cs
appended_all [] t = sym (append-nil t)
appended_all (c ∷ cs) t = appended_all cs (t ++ code c ∷ []) ∙ append_assoc t (code c ∷ []) (map code cs)

pub on_tape : (n : ℕ) (script : List Step) (before after : List Answer) (places : ℕ) (s r : Tape) → taped s.places.now s.next ≡ record { reader = first; room = places; trail = [] }
    → Followed tapes n script before after s r → OnTape n script before after places r
on_tape n script before after places s r e f = record {
  start = s;
  begins = e;
  followed = f;
  holds = f.trails ∙ (appended_all (cycles_of f.turns) (taped s.places.now s.next).trail ∙ ap (λ (m : Meaning). m.trail ++ map code (cycles_of f.turns)) e);
}
