-- The law of every run, in the words of calls, answers and the bus reader.
use Rattle.std.specs.Prelude.{◌≡◌, ℕ, ◌+◌, ◌≤◌, Bool, true, false, cond, List, [], ◌∷◌, ◌++◌, length}
use Rattle.flash.specs.declared.cycle.Cycle.{Cycle}
use Rattle.bus.specs.Bus.{Reader, first, steps}
use Rattle.calls.specs.declared.call.Call.{Call}
use Rattle.calls.specs.declared.call.Call.TheVariants as call
use Rattle.driver.specs.Laws.{Exact, given, returned, working, stands_after}
use Rattle.driver.specs.Outcomes.{Reply, outcome, call_cycles}
use Rattle.driver.specs.Views.{View}
use Rattle.driver.specs.declared.standing.Standing.{Standing}
use Rattle.driver.specs.declared.standing.Standing.TheVariants as standing

-- a session is a survey first, and a driver after close
pub data Stage : Type 0 where
  surveying : Stage
  driving : Stage

abbrev pub offers : Stage → Call → Bool
offers surveying call.Identify = true
offers surveying (call.Look p) = true
offers surveying call.Close = true
offers surveying (call.Read p c len) = false
offers surveying (call.Erase b) = false
offers surveying (call.Program p c) = false
offers surveying (call.CacheFirst p c) = false
offers surveying (call.CacheNext n g c) = false
offers surveying (call.CacheLast n g c) = false
offers surveying (call.Copy p q) = false
offers surveying (call.Settle n) = false
offers surveying (call.Abandon n) = false
offers surveying call.Reset = true
offers surveying (call.Pick b) = false
offers surveying (call.Record b) = false
offers driving call.Identify = false
offers driving (call.Look p) = false
offers driving call.Close = false
offers driving (call.Read p c len) = true
offers driving (call.Erase b) = true
offers driving (call.Program p c) = true
offers driving (call.CacheFirst p c) = true
offers driving (call.CacheNext n g c) = true
offers driving (call.CacheLast n g c) = true
offers driving (call.Copy p q) = true
offers driving (call.Settle n) = true
offers driving (call.Abandon n) = true
offers driving call.Reset = true
offers driving (call.Pick b) = true
offers driving (call.Record b) = true

abbrev pub is_close : Call → Bool
is_close call.Identify = false
is_close (call.Look p) = false
is_close call.Close = true
is_close (call.Read p c len) = false
is_close (call.Erase b) = false
is_close (call.Program p c) = false
is_close (call.CacheFirst p c) = false
is_close (call.CacheNext n g c) = false
is_close (call.CacheLast n g c) = false
is_close (call.Copy p q) = false
is_close (call.Settle n) = false
is_close (call.Abandon n) = false
is_close call.Reset = false
is_close (call.Pick b) = false
is_close (call.Record b) = false

abbrev pub stage_after : Stage → Call → Stage
stage_after st c = cond (is_close c) driving st

-- what a call of a script is answered
pub data Answer : Type 0 where
  answered : Reply → Answer
  not_offered : Answer

-- one turn: a call with its bytes, its answer and cycles, the reader before and after, the room before
pub record Turn : Type 0 where
  pub call : Call
  pub bytes : List ℕ
  pub answer : Answer
  pub cycles : List Cycle
  pub before : Reader
  pub after : Reader
  pub room : ℕ

-- what calls and answers so far tell, and the reader and room that they came to
pub record Where : Type 0 where
  pub stage : Stage
  pub standing : Standing
  pub given : ℕ
  pub returned : ℕ
  pub reader : Reader
  pub room : ℕ

-- nothing has been called, on a fresh port
abbrev pub begun : ℕ → Where
begun room = record { stage = surveying; standing = standing.Ready; given = 0; returned = 0; reader = first; room = room }

-- part and records are the reader's
abbrev pub view_at : ℕ → Standing → Reader → View
view_at n s r = record { part = r.bus.part; polls = n; blocks = r.blocks; standing = s }

-- for some replies, answer and cycles are those of the tables
pub record Answers (n : ℕ) (s : Standing) (x : Turn) (a : Reply) : Type 0 where
  pub replies : List ℕ
  pub answer : a ≡ (outcome (view_at n s x.before) x.room x.call (length x.bytes) replies).reply
  pub cycles : x.cycles ≡ call_cycles (view_at n s x.before) x.room x.call x.bytes replies

abbrev pub stands_by : Standing → Call → Answer → Standing
stands_by s c (answered a) = stands_after s c a
stands_by s c not_offered = s

abbrev pub given_by : Call → Answer → ℕ
given_by c (answered a) = given c a
given_by c not_offered = 0

abbrev pub returned_by : Call → Answer → ℕ
returned_by c (answered a) = returned c a
returned_by c not_offered = 0

abbrev pub advanced : Where → Turn → ℕ → Where
advanced w x room = record {
  stage = stage_after w.stage x.call;
  standing = stands_by w.standing x.call x.answer;
  given = w.given + given_by x.call x.answer;
  returned = w.returned + returned_by x.call x.answer;
  reader = x.after;
  room = room;
}

-- a call that the stage offers is answered by the tables, and judged exactly; any other does nothing
abbrev pub Pinned : ℕ → Where → Turn → Answer → Type 0
Pinned n w x (answered a) = (offers w.stage x.call ≡ true) × Answers n w.standing x a × Exact x.call x.bytes a x.before
Pinned n w x not_offered = (offers w.stage x.call ≡ false) × (x.cycles ≡ [])

-- a lawful turn, after which the port has this room
pub record Lawful (n : ℕ) (w : Where) (x : Turn) (room : ℕ) : Type 0 where
  pub begins : x.before ≡ w.reader
  pub room_before : x.room ≡ w.room
  pub pinned : Pinned n w x x.answer
  pub stepped : x.after ≡ steps x.before x.cycles
  pub clean : x.after.bus.breaches ≡ 0
  pub slips : w.given + given_by x.call x.answer ≡ w.returned + returned_by x.call x.answer + working x.after
  pub room_least : w.room ≤ room + length x.cycles
  pub room_most : room ≤ w.room

-- turns that lead from w to z
abbrev pub Law : ℕ → Where → List Turn → Where → Type 0
Law n w [] z = z ≡ w
Law n w (x ∷ xs) z = (room : ℕ) × Lawful n w x room × Law n (advanced w x room) xs z

abbrev pub cycles_of : List Turn → List Cycle
cycles_of [] = []
cycles_of (x ∷ xs) = x.cycles ++ cycles_of xs
