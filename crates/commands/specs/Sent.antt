-- What a command sequence promises of the port and of its result.
use Rattle.std.specs.Prelude.{◌≡◌, ℕ, ◌<◌, true, false, ◌⊎◌, List, length, take, is_some, None, Option, Result, MatchResult}
use Rattle.std.specs.List.{AllByRecursion}
use Rattle.flash.specs.Statuses.{ready}
use Rattle.flash.specs.declared.cycle.Cycle.{Cycle}
use Rattle.flash.specs.declared.fault.Fault.{Fault}
use Rattle.flash.specs.declared.fault.Fault.TheVariants.{NoRoom, Timeout}
use Rattle.flash.specs.declared.page.Page.{Page}
use Rattle.port.specs.Meanings.{Took}
use Rattle.port.specs.declared.port.Port.{Ghosts}
use Rattle.commands.specs.Polls.{polled, taken}

-- these cycles went over the port, which was a and is b now
pub record Ran {X : Type 0} (p : Ghosts X) (cs : List Cycle) (a b : X) : Type 0 where
  pub took : Took p.moves cs (p.meaning a) (p.meaning b)

-- the room ran out: it was less than the cycles, a front of them went over, and none is left
pub record Cut {X : Type 0} (p : Ghosts X) (cs : List Cycle) (a b : X) : Type 0 where
  pub short : (p.meaning a).room < length cs
  pub count : ℕ
  pub fewer : count < length cs
  pub ran : Ran p (take count cs) a b
  pub full : (p.meaning b).room ≡ 0

-- a sequence without replies: all its cycles went over, or the room ran out
abbrev pub Sent : {X T : Type 0} → Ghosts X → List Cycle → Result T Fault → X → X → Type 0
Sent p cs r a b = MatchResult r (λ _. Ran p cs a b) (λ f. (f ≡ NoRoom None) × Cut p cs a b)

-- the same for some replies of the chip
pub record Short {X : Type 0} (p : Ghosts X) (cs : List ℕ → List Cycle) (a b : X) : Type 0 where
  pub replies : List ℕ
  pub cut : Cut p (cs replies) a b

-- a sequence with a poll of at most n. The chip became ready, and for these replies it gave its value
pub record Went {X : Type 0} (p : Ghosts X) (n : ℕ) (cs : List ℕ → List Cycle) (Gives : List ℕ → Type 0) (a b : X) : Type 0 where
  pub replies : List ℕ
  pub ready : is_some (polled n replies) ≡ true
  pub gives : Gives replies
  pub ran : Ran p (cs replies) a b

-- or n status bytes came, none of them ready
pub record TimedOut {X : Type 0} (p : Ghosts X) (n : ℕ) (cs : List ℕ → List Cycle) (a b : X) : Type 0 where
  pub replies : List ℕ
  pub never : polled n replies ≡ None
  pub all : length (taken n replies) ≡ n
  pub busy : AllByRecursion (λ s. ready s ≡ false) (taken n replies)
  pub ran : Ran p (cs replies) a b

abbrev pub Stopped : {X : Type 0} → Ghosts X → ℕ → Option Page → (List ℕ → List Cycle) → Fault → X → X → Type 0
Stopped p n at cs f a b = ((f ≡ Timeout at) × TimedOut p n cs a b) ⊎ ((f ≡ NoRoom None) × Short p cs a b)

abbrev pub Did : {X T : Type 0} → Ghosts X → ℕ → Option Page → (List ℕ → List Cycle) → (List ℕ → T → Type 0) → Result T Fault → X → X → Type 0
Did p n at cs Gives r a b = MatchResult r (λ v. Went p n cs (λ rs. Gives rs v) a b) (λ f. Stopped p n at cs f a b)
