-- The law of a call, in the words of calls, answers and the bus reader.
use Rattle.std.specs.Prelude.{◌≡◌, ℕ, Bool, true, false, cond, List, is_some, nat_eq, nat_lt}
use Rattle.flash.specs.Faults.{number_of, place_of}
use Rattle.flash.specs.declared.fault.Fault.{Fault}
use Rattle.flash.specs.declared.fault.Place.{Place}
use Rattle.flash.specs.declared.fault.Place.TheVariants as place
use Rattle.bus.specs.Bus.{Reader, steps}
use Rattle.bus.specs.States.{under_way}
use Rattle.calls.specs.Table.{chain_page, ready_cycles}
use Rattle.calls.specs.declared.call.Call.{Call}
use Rattle.calls.specs.declared.call.Call.TheVariants as call
use Rattle.driver.specs.Called.{settle_takes, abandon_takes}
use Rattle.driver.specs.Outcomes.{Reply, done, slip, byte, bytes, block, known, refused}
use Rattle.driver.specs.declared.standing.Standing.{Standing}
use Rattle.driver.specs.declared.standing.Standing.TheVariants as standing

-- ## Turned away at the record exactly when the reader would count a breach

abbrev early_place : Place → Bool
early_place place.State = true
early_place place.Arguments = true
early_place place.Record = false
early_place place.Port = false
early_place place.Chip = false

abbrev record_place : Place → Bool
record_place place.State = false
record_place place.Arguments = false
record_place place.Record = true
record_place place.Port = false
record_place place.Chip = false

-- refused with a fault that has this property
abbrev pub refused_with : (Fault → Bool) → Reply → Bool
refused_with f done = false
refused_with f (slip n) = false
refused_with f (byte b) = false
refused_with f (bytes bs) = false
refused_with f (block o) = false
refused_with f (known k) = false
refused_with f (refused x) = f x

-- at state or arguments; at the record
abbrev pub early : Reply → Bool
early a = refused_with (λ f. early_place (place_of f)) a

abbrev pub at_record : Reply → Bool
at_record a = refused_with (λ f. record_place (place_of f)) a

-- the calls that work on a block
abbrev pub judged : Call → Bool
judged call.Identify = false
judged (call.Look p) = false
judged call.Close = false
judged (call.Read p c len) = false
judged (call.Erase b) = true
judged (call.Program p c) = true
judged (call.CacheFirst p c) = true
judged (call.CacheNext n g c) = true
judged (call.CacheLast n g c) = true
judged (call.Copy p q) = true
judged (call.Settle n) = false
judged (call.Abandon n) = false
judged call.Reset = false
judged (call.Pick b) = false
judged (call.Record b) = false

-- such a call, with these bytes and this answer, that began at the reader r
abbrev pub Exact : Call → List ℕ → Reply → Reader → Type 0
Exact c bs a r = judged c ≡ true → early a ≡ false → at_record a ≡ nat_lt r.bus.breaches (steps r (ready_cycles r.bus.part c bs)).bus.breaches

-- ## Slips, counted from calls and answers

abbrev pub one : Bool → ℕ
one b = cond b 1 0

-- accepted: the answer is no refusal
abbrev pub accepts : Reply → Bool
accepts done = true
accepts (slip n) = true
accepts (byte b) = true
accepts (bytes bs) = true
accepts (block o) = true
accepts (known k) = true
accepts (refused f) = false

abbrev pub given : Call → Reply → ℕ
given call.Identify a = 0
given (call.Look p) a = 0
given call.Close a = 0
given (call.Read p c len) a = 0
given (call.Erase b) a = one (accepts a)
given (call.Program p c) a = one (accepts a)
given (call.CacheFirst p c) a = one (accepts a)
given (call.CacheNext n g c) a = 0
given (call.CacheLast n g c) a = 0
given (call.Copy p q) a = one (accepts a)
given (call.Settle n) a = 0
given (call.Abandon n) a = 0
given call.Reset a = 0
given (call.Pick b) a = 0
given (call.Record b) a = 0

abbrev pub returned : Call → Reply → ℕ
returned call.Identify a = 0
returned (call.Look p) a = 0
returned call.Close a = 0
returned (call.Read p c len) a = 0
returned (call.Erase b) a = 0
returned (call.Program p c) a = 0
returned (call.CacheFirst p c) a = 0
returned (call.CacheNext n g c) a = 0
returned (call.CacheLast n g c) a = 0
returned (call.Copy p q) a = 0
returned (call.Settle n) a = one (settle_takes a)
returned (call.Abandon n) a = one (abandon_takes a)
returned call.Reset a = 0
returned (call.Pick b) a = 0
returned (call.Record b) a = 0

-- a program, an erase or a chain is under way
abbrev pub working : Reader → ℕ
working r = one (is_some (under_way r.bus))

-- ## What is out or stuck, told by calls and answers

-- stuck at 14, ready again where the call was done
abbrev timed_out : Reply → Bool
timed_out a = refused_with (λ f. nat_eq (number_of f) 14) a

abbrev pub stuck_if : Standing → Reply → Standing
stuck_if s a = cond (timed_out a) standing.Stuck s

abbrev pub stands_after : Standing → Call → Reply → Standing
stands_after s call.Identify a = stuck_if s a
stands_after s (call.Look p) a = stuck_if s a
stands_after s call.Close a = s
stands_after s (call.Read p c len) a = stuck_if s a
stands_after s (call.Erase b) a = cond (accepts a) (standing.Erasing b) s
stands_after s (call.Program p c) a = cond (accepts a) (standing.Programming p) s
stands_after s (call.CacheFirst p c) a = cond (accepts a) (standing.Chaining p) s
stands_after s (call.CacheNext n g c) a = cond (accepts a) (standing.Chaining (chain_page n g)) s
stands_after s (call.CacheLast n g c) a = cond (accepts a) (standing.Programming (chain_page n g)) s
stands_after s (call.Copy p q) a = cond (accepts a) (standing.Programming q) (stuck_if s a)
stands_after s (call.Settle n) a = cond (settle_takes a) standing.Ready s
stands_after s (call.Abandon n) a = cond (accepts a) standing.Ready (stuck_if s a)
stands_after s call.Reset a = cond (accepts a) standing.Ready (stuck_if s a)
stands_after s (call.Pick b) a = s
stands_after s (call.Record b) a = s
