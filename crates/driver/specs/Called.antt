-- What a call promises.
use Rattle.std.specs.Prelude.{◌≡◌, ℕ, Bool, true, cond, ◌||◌, List, length, Ok, Err, Result, ◌==◌, ◌≢◌, slice_index_or}
use Rattle.flash.specs.Faults.{number_of}
use Rattle.flash.specs.Records.{first_record}
use Rattle.flash.specs.declared.cycle.Cycle.{Cycle}
use Rattle.flash.specs.declared.fault.Fault.{Fault}
use Rattle.flash.specs.declared.record.BlockRecord.{BlockRecord}
use Rattle.port.specs.declared.port.Port.{Ghosts}
use Rattle.commands.specs.Sent.{Ran}
use Rattle.calls.specs.declared.call.Call.{Call}
use Rattle.driver.specs.Views.{View}
use Rattle.driver.specs.Outcomes.{Reply, done, slip, byte, bytes, block, known, refused, Outcome, outcome, call_cycles}
use Rattle.driver.specs.declared.session.Session.{Session}
use Rattle.driver.specs.declared.slip.Slip.{Slip}

abbrev pub view_of : {P : Type 0} → Session P → View
view_of s = s.state

-- for some replies of the chip, the answer and the view are the outcome of them, and their cycles went
-- over the port, which was x and is y now
pub record Did {X : Type 0} (p : Ghosts X) (o : List ℕ → Outcome) (cs : List ℕ → List Cycle) (a : Reply) (v : View) (x y : X) : Type 0 where
  pub replies : List ℕ
  pub answers : a ≡ (o replies).reply
  pub views : v ≡ (o replies).view
  pub ran : Ran p (cs replies) x y

-- the call c with the bytes bs on the session s is answered a, and leaves t
abbrev pub Called : {X : Type 0} → Ghosts X → Call → List ℕ → Reply → Session X → Session X → Type 0
Called p c bs a s t =
    Did p (outcome (view_of s) (p.meaning s.port).room c (length bs)) (call_cycles (view_of s) (p.meaning s.port).room c bs) a (view_of t) s.port t.port

-- a program began with the outcome o
abbrev pub Begun : Result ℕ Fault → Outcome → View → Type 0
Begun (Ok n) o v = (slip n ≡ o.reply) × (v ≡ o.view)
Begun (Err f) o v = Unit {0}

-- results as answers
abbrev pub unit_reply : Result Unit Fault → Reply
unit_reply (Ok u) = done
unit_reply (Err f) = refused f

abbrev pub slip_reply : Result Slip Fault → Reply
slip_reply (Ok s) = slip s.number
slip_reply (Err f) = refused f

abbrev pub byte_reply : Result ℕ Fault → Reply
byte_reply (Ok b) = byte b
byte_reply (Err f) = refused f

-- a read answers what is in the buffer
abbrev pub read_reply : Result Unit Fault → List ℕ → Reply
read_reply (Ok u) bs = bytes bs
read_reply (Err f) bs = refused f

-- the later cache calls answer the slip's new number
abbrev pub chain_reply : Result Unit Fault → ℕ → Reply
chain_reply (Ok u) n = slip n
chain_reply (Err f) n = refused f

abbrev pub known_reply : Result BlockRecord Fault → Reply
known_reply (Ok k) = known k
known_reply (Err f) = refused f

-- settle takes the slip where it is accepted or refused with 16 or 17, abandon also with 14
abbrev pub settle_takes : Reply → Bool
settle_takes done = true
settle_takes (slip n) = true
settle_takes (byte b) = true
settle_takes (bytes bs) = true
settle_takes (block o) = true
settle_takes (known k) = true
settle_takes (refused f) = number_of f == 16 || number_of f == 17

abbrev pub abandon_takes : Reply → Bool
abandon_takes done = true
abandon_takes (slip n) = true
abandon_takes (byte b) = true
abandon_takes (bytes bs) = true
abandon_takes (block o) = true
abandon_takes (known k) = true
abandon_takes (refused f) = number_of f == 14

-- a slip's number after a call that may take it
abbrev pub spent_if : Bool → ℕ → ℕ
spent_if b n = cond b 0 n

-- a refusal leaves the slip or the buffer as it was
abbrev pub KeptAtRefusal : {T V : Type 0} → Result T Fault → V → V → Type 0
KeptAtRefusal (Ok x) a b = Unit {0}
KeptAtRefusal (Err f) a b = b ≡ a

-- the record of one block may have changed, and that of no other
abbrev pub OthersStand : List BlockRecord → List BlockRecord → Type 0
OthersStand ks js = (b : ℕ) × ((x : ℕ) → (x ≢ b) → slice_index_or js x first_record ≡ slice_index_or ks x first_record)
