-- Scripts as lists of calls, and what a run of one promises.
use Rattle.std.specs.Prelude.{◌≡◌, ℕ, min, true, false, List, [], ◌∷◌, ◌++◌, map, length, take, vec_items}
use mathlib.Core.List.{foldl}
use Rattle.port.specs.declared.port.Port.{Ghosts}
use Rattle.calls.specs.declared.call.Call.{Call}
use Rattle.calls.specs.declared.call.Call.TheVariants as call
use Rattle.driver.specs.Called.{Called}
use Rattle.driver.specs.Outcomes.{done, slip, byte, bytes, block, known, refused}
use Rattle.driver.specs.Turns.{Stage, offers, answered, not_offered, Turn, Where, begun, Law, cycles_of}
use Rattle.driver.specs.Turns as turns
use Rattle.driver.specs.declared.script.Answer.{Answer}
use Rattle.driver.specs.declared.script.Answer.TheVariants as answer
use Rattle.driver.specs.declared.script.Step.{Step}
use Rattle.driver.specs.declared.session.Session.{Session}

-- the bytes that a call programs, if it programs any
abbrev pub bytes_for : Call → List ℕ → List ℕ
bytes_for call.Identify bs = []
bytes_for (call.Look p) bs = []
bytes_for call.Close bs = []
bytes_for (call.Read p c len) bs = []
bytes_for (call.Erase b) bs = []
bytes_for (call.Program p c) bs = bs
bytes_for (call.CacheFirst p c) bs = bs
bytes_for (call.CacheNext n g c) bs = bs
bytes_for (call.CacheLast n g c) bs = bs
bytes_for (call.Copy p q) bs = []
bytes_for (call.Settle n) bs = []
bytes_for (call.Abandon n) bs = []
bytes_for call.Reset bs = []
bytes_for (call.Pick b) bs = []
bytes_for (call.Record b) bs = []

-- how long a buffer a call wants: a read of more than 2,113 bytes is refused as one of 2,113 is
abbrev pub read_length : Call → ℕ
read_length call.Identify = 0
read_length (call.Look p) = 0
read_length call.Close = 0
read_length (call.Read p c len) = min len 2113
read_length (call.Erase b) = 0
read_length (call.Program p c) = 0
read_length (call.CacheFirst p c) = 0
read_length (call.CacheNext n g c) = 0
read_length (call.CacheLast n g c) = 0
read_length (call.Copy p q) = 0
read_length (call.Settle n) = 0
read_length (call.Abandon n) = 0
read_length call.Reset = 0
read_length (call.Pick b) = 0
read_length (call.Record b) = 0

-- an answer at run time
abbrev pub answer_of : Answer → turns.Answer
answer_of answer.Done = answered done
answer_of (answer.Slip n) = answered (slip n)
answer_of (answer.Byte b) = answered (byte b)
answer_of (answer.Bytes v) = answered (bytes (vec_items v))
answer_of (answer.Block o) = answered (block o)
answer_of (answer.Known k) = answered (known k)
answer_of (answer.Refused f) = answered (refused f)
answer_of answer.NotOffered = not_offered

-- one call on a session: offered and made, or passed over
abbrev pub Turned : {X : Type 0} → Ghosts X → Stage → Call → List ℕ → turns.Answer → Session X → Session X → Type 0
Turned p st c bs (answered a) s t = (offers st c ≡ true) × Called p c bs a s t
Turned p st c bs not_offered s t = (offers st c ≡ false) × (t ≡ s)

-- what is asked in a step of a script, and in a turn
abbrev pub asked : Step → Call × List ℕ
asked s = (s.call, bytes_for s.call (vec_items s.bytes))

abbrev pub asked_in : Turn → Call × List ℕ
asked_in x = (x.call, x.bytes)

abbrev pub answer_in : Turn → turns.Answer
answer_in x = x.answer

-- the room of each turn is the room of the port as it was then
abbrev pub Rooms : {X : Type 0} → Ghosts X → List Turn → Type 0
Rooms p [] = Unit {0}
Rooms {X} p (x ∷ xs) = ((y : X) × ((p.meaning y).room ≡ x.room)) × Rooms p xs

-- a run on the fresh port a with a poll count of n, which left b: a turn for each call, or for a front of
-- them where memory for answers ran out; the answers are added to those before
pub record Followed {X : Type 0} (p : Ghosts X) (n : ℕ) (script : List Step) (before after : List Answer) (a b : X) : Type 0 where
  pub turns : List Turn
  pub asked : map asked_in turns ≡ take (length turns) (map asked script)
  pub answers : map answer_of after ≡ map answer_of before ++ map answer_in turns
  pub ends : Where
  pub law : Law n (begun (p.meaning a).room) turns ends
  pub reads : (p.meaning b).reader ≡ ends.reader
  pub rooms : (p.meaning b).room ≡ ends.room
  pub each : Rooms p turns
  pub trails : (p.meaning b).trail ≡ foldl p.moves (p.meaning a).trail (cycles_of turns)
