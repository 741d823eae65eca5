-- Bytes from the chip on the bus: a page's, and the identity.
use Rattle.std.proofs.Common.{◌≡◌, ℕ, ◌+◌, ◌<◌, ◌≤◌, Bool, true, false, ltb, List, [], ◌∷◌, map, length, refl, ap, ◌∙◌, arith, None, Some}
use Rattle.std.proofs.lemmas.Bool.{lt-ltb}
use Rattle.flash.specs.declared.address.Column.{Column}
use Rattle.flash.specs.declared.address.Row.{Row}
use Rattle.flash.specs.declared.opcode.Opcode.TheVariants as op
use Rattle.flash.specs.declared.part.Part.{Part}
use Rattle.bus.specs.Acts.{act_of, output}
use Rattle.bus.specs.Bus.{Reader, at}
use Rattle.bus.specs.States.{quiet, closed, nothing_given, plus}
use Rattle.bus.specs.declared.act.Act.TheVariants as act
use Rattle.bus.specs.declared.state.Given.{Given}
use Rattle.bus.specs.declared.state.Phase.{Phase}
use Rattle.bus.specs.declared.state.Phase.TheVariants as phase
use Rattle.port.specs.Meanings.{gave}
use Rattle.commands.specs.Polls.{command, first_of}
use Rattle.commands.specs.Sequences.{address_byte, identity_cycles}
use Rattle.calls.specs.Afters.{move_to, noted, after_bytes, after_identity, page_read}
use Rattle.calls.specs.Deeds.{out, identity}
use Rattle.calls.proofs.Confirmed.{Calm, next_in_page}
use Rattle.calls.proofs.Goes.{Runs, runs_none, runs_then, runs_to, runs_one, runs_plain}

-- the reader with the register at a column, after bytes from it on
abbrev reading : Phase → Row → ℕ → Bool → Reader → Reader
reading h w n f r = move_to h (Some (page_read w (record { number = n }) f)) r

-- one byte: the register's column rises, the flag falls, a mark is noted
byte_runs : (r : Reader) (h : Phase) (w : Row) (n b : ℕ) (f : Bool) → r.bus.breaches ≤ 65535 → n < 2112
    → ((d : ℕ) → act_of (reading h w n f r).bus (gave d) ≡ output (Some (page_read w (record { number = n }) f)) d)
    → Runs (reading h w n f r) [] (gave b ∷ []) (after_bytes w (record { number = n }) (b ∷ []) r) [] (out b ∷ [])
byte_runs r h w n b f m l e =
    let t : ltb n 2112 ≡ true = lt-ltb n 2112 l in
    runs_to (ap (λ (c : Column). record { bus = at r.bus phase.Output r.bus.busy (Some (page_read w c false)) r.bus.chain; blocks = noted r.bus.part w n (b ∷ []) r.blocks }) (next_in_page n l))
    (runs_plain (reading h w n f r) [] (gave b) (act.Data w (record { number = n }) b) refl m (e b ∙ simp t))

bytes_more : (bs : List ℕ) (r : Reader) (w : Row) (n : ℕ) → r.bus.breaches ≤ 65535 → n + length bs ≤ 2112
    → Runs (reading phase.Output w n false r) [] (map gave bs) (after_bytes w (record { number = n }) bs r) [] (map out bs)
bytes_more [] r w n m l = runs_to (ap (λ k. reading phase.Output w k false r) (omega arith)) (runs_none (reading phase.Output w n false r) [])
bytes_more (b ∷ bs) r w n m l =
    runs_to (ap (λ k. record { bus = at r.bus phase.Output r.bus.busy (Some (page_read w (record { number = k }) false)) r.bus.chain; blocks = noted r.bus.part w n (b ∷ bs) r.blocks }) (omega arith))
    (runs_then (byte_runs r phase.Output w n b false m (omega arith) (λ d. refl))
    (bytes_more bs (record { bus = r.bus; blocks = noted r.bus.part w n (b ∷ []) r.blocks }) w (n + 1) m (omega arith)))

-- 00h, and the bytes of the page in the register
pub bytes_run : (r : Reader) (p : Part) (k : Calm r p) (w : Row) (c : Column) (f : Bool) (bs : List ℕ) → r.bus.register ≡ Some (page_read w c f) → closed r.bus.chain ≡ true
    → 0 < length bs → c.number + length bs ≤ 2112
    → Runs r [] (command op.Read ∷ map gave bs) (after_bytes w c bs r) [] (map out bs)
bytes_run r p k w c f [] e shut z l = absurd (omega arith)
bytes_run r p k w c f (b ∷ bs) e shut z l =
    runs_to (ap (λ n. record { bus = at r.bus phase.Output r.bus.busy (Some (page_read w (record { number = n }) false)) r.bus.chain; blocks = noted r.bus.part w c.number (b ∷ bs) r.blocks }) (omega arith))
    (runs_then (runs_plain r [] (command op.Read) (act.Prepare phase.ReadSetup (Some (page_read w c f))) refl k.breaches (simp (k.idle, k.quiet, shut, k.part, e)))
    (runs_then (byte_runs r phase.ReadSetup w c.number b f k.breaches (omega arith) (λ d. refl))
    (bytes_more bs (record { bus = r.bus; blocks = noted r.bus.part w c.number (b ∷ []) r.blocks }) w (c.number + 1) k.breaches (omega arith))))

-- 90h, the address 00h, and five bytes
identity_five : (r : Reader) (a b c d e : ℕ) → r.bus.busy ≡ None → quiet r.bus.phase ≡ true → closed r.bus.chain ≡ true → r.bus.breaches ≤ 65535
    → Runs r [] (command op.ReadId ∷ address_byte 0 ∷ map gave (a ∷ b ∷ c ∷ d ∷ e ∷ [])) (after_identity (a ∷ b ∷ c ∷ d ∷ e ∷ []) r) [] (identity (a ∷ b ∷ c ∷ d ∷ e ∷ []) ∷ [])
identity_five r a b c d e i q shut m =
    runs_then (runs_plain r [] (command op.ReadId) (act.Prepare phase.Identity None) refl m (simp (i, q, shut)))
    (runs_then (runs_plain (move_to phase.Identity None r) [] (address_byte 0) (act.Prepare (phase.IdentityBytes nothing_given) None) refl m refl)
    (runs_then (more nothing_given a refl)
    (runs_then (more (plus nothing_given a) b refl)
    (runs_then (more (plus (plus nothing_given a) b) c refl)
    (runs_then (more (plus (plus (plus nothing_given a) b) c) d refl)
    (runs_one (move_to (phase.IdentityBytes (plus (plus (plus (plus nothing_given a) b) c) d)) None r) [] (gave e) (act.Identify (a ∷ b ∷ c ∷ d ∷ e ∷ [])) refl))))))
  where
    more : (g : Given) (x : ℕ) → ltb (plus g x).count 5 ≡ true
        → Runs (move_to (phase.IdentityBytes g) None r) [] (gave x ∷ []) (move_to (phase.IdentityBytes (plus g x)) None r) [] []
    more g x t = runs_plain (move_to (phase.IdentityBytes g) None r) [] (gave x) (act.Prepare (phase.IdentityBytes (plus g x)) None) refl m (simp t)

pub identity_runs : (r : Reader) (rs : List ℕ) → r.bus.busy ≡ None → quiet r.bus.phase ≡ true → closed r.bus.chain ≡ true → r.bus.breaches ≤ 65535
    → Runs r [] (identity_cycles rs) (after_identity (first_of 5 rs) r) [] (identity (first_of 5 rs) ∷ [])
identity_runs r [] = identity_five r 0xFF 0xFF 0xFF 0xFF 0xFF
identity_runs r (a ∷ []) = identity_five r a 0xFF 0xFF 0xFF 0xFF
identity_runs r (a ∷ b ∷ []) = identity_five r a b 0xFF 0xFF 0xFF
identity_runs r (a ∷ b ∷ c ∷ []) = identity_five r a b c 0xFF 0xFF
identity_runs r (a ∷ b ∷ c ∷ d ∷ []) = identity_five r a b c d 0xFF
identity_runs r (a ∷ b ∷ c ∷ d ∷ e ∷ rs) = identity_five r a b c d e
