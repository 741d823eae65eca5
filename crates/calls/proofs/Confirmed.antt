-- Erases, programs and reads on the bus, from the command that begins them to the confirm.
use Rattle.std.proofs.Common.{◌≡◌, ℕ, ◌+◌, ◌*◌, ◌<◌, ◌≤◌, Bool, true, ltb, List, [], ◌∷◌, ◌++◌, map, length, Some, None, Option, sym, refl, ap, ◌∙◌, subst, append_assoc, append-nil, arith}
use Rattle.std.proofs.lemmas.Bool.{lt-ltb}
use Rattle.flash.specs.declared.address.Column.{Column}
use Rattle.flash.specs.declared.address.Row.{Row}
use Rattle.flash.specs.declared.cycle.Cycle.{Cycle}
use Rattle.flash.specs.declared.opcode.Opcode.{Opcode}
use Rattle.flash.specs.declared.opcode.Opcode.TheVariants as op
use Rattle.flash.specs.declared.part.Part.{Part}
use Rattle.flash.specs.Parts.{blocks_of}
use Rattle.flash.specs.Addresses.{block_of}
use Rattle.bus.specs.Acts.{act_of, loading, in_chain}
use Rattle.bus.specs.Bus.{Reader}
use Rattle.bus.specs.States.{quiet, closed, copy_up, nothing_given, column_skipped}
use Rattle.bus.specs.declared.act.Act.TheVariants as act
use Rattle.bus.specs.declared.state.Setup.TheVariants as setup
use Rattle.bus.specs.declared.state.Phase.{Phase}
use Rattle.bus.specs.declared.state.Phase.TheVariants as phase
use Rattle.flash.specs.Addresses.{next_column}
use Rattle.bus.specs.declared.act.Confirm.{Confirm}
use Rattle.bus.specs.declared.act.Confirm.TheVariants as confirm
use Rattle.events.specs.Events.{place}
use Rattle.commands.specs.Polls.{command}
use Rattle.commands.specs.Sequences.{first_column, data_byte, addressed, confirming, erase_cycles, program_cycles, copy_cycles}
use Rattle.calls.specs.Afters.{move_to, after_erase, after_program, after_open, page_read}
use Rattle.calls.specs.Deeds.{Deed, erase, program, read}
use Rattle.calls.proofs.Addresses.{row_runs, address_runs, address_read}
use Rattle.calls.proofs.Goes.{Runs, runs_none, runs_then, runs_to, runs_one, runs_plain}

-- a reader of a known part, nothing busy and nothing half given
pub record Calm (r : Reader) (p : Part) : Type 0 where
  pub part : r.bus.part ≡ Some p
  pub idle : r.bus.busy ≡ None
  pub quiet : quiet r.bus.phase ≡ true
  pub breaches : r.bus.breaches ≤ 65535

pub no_chain : (k : Option ℕ) (w : Row) → closed k ≡ true → in_chain k w ≡ true
no_chain None w e = refl
no_chain (Some b) w e = absurd (grind (arith, e))

module _ (r : Reader) (p : Part) (k : Calm r p) (w : Row) (l : w.number < 64 * blocks_of p) where
  pub erase_runs : closed r.bus.chain ≡ true → Runs r [] (erase_cycles (Some p) w) (after_erase w r) [] (erase (block_of w) ∷ [])
  erase_runs shut =
      runs_then (runs_plain r [] (command op.Erase) (act.Prepare (phase.Addressing setup.Erase column_skipped) None) refl k.breaches (simp (k.idle, k.quiet, shut, k.part)))
      (runs_then (row_runs r [] k.breaches setup.Erase None w (no_chain r.bus.chain w shut) p 0 0 k.part l)
      (runs_one (move_to (phase.Addressed setup.Erase (record { number = 0 }) w) None r) [] (command op.EraseConfirm) (act.Erase w) (simp (k.idle, shut))))

  -- 00h, an address, 30h or 35h, and what follows
  pub open_runs : (c : Column) (copy : Bool) (f : Opcode) {cs : List Cycle} {s : Reader} {ds : List Deed} → c.number < 65536 → closed r.bus.chain ≡ true
      → act_of (move_to (phase.Addressed setup.Read c w) None r).bus (command f) ≡ act.Read (page_read w c copy)
      → Runs (after_open w c copy r) [] cs s [] ds
      → Runs r [] (command op.Read ∷ (addressed (Some p) w c ++ (command f ∷ cs))) s [] (read copy (place w c) ∷ ds)
  open_runs c copy f i shut e x =
      runs_then (runs_plain r [] (command op.Read) (act.Prepare phase.ReadSetup r.bus.register) refl k.breaches (simp (k.idle, k.quiet, shut, k.part)))
      (runs_then (address_read r [] k.breaches p k.part w l (no_chain r.bus.chain w shut) c i r.bus.register)
      (runs_then (runs_one (move_to (phase.Addressed setup.Read c w) None r) [] (command f) (act.Read (page_read w c copy)) e) x))

-- bytes to program, from a column of the page on
pub next_in_page : (n : ℕ) → n < 2112 → next_column (record { number = n }) ≡ record { number = n + 1 }
next_in_page n h = let t : ltb n 2112 ≡ true = lt-ltb n 2112 h in simp t

module _ (r : Reader) (m : r.bus.breaches ≤ 65535) (w : Row) (s : Column) where
  abbrev Loaded : ℕ → Reader
  Loaded n = move_to (phase.Loading w s (record { number = n })) None r

  load_runs : (q : Phase) (h : List ℕ) (n b : ℕ) → n < 2112
      → ((d : ℕ) → act_of (move_to q None r).bus (data_byte d) ≡ loading w s (record { number = n }) d)
      → Runs (move_to q None r) h (data_byte b ∷ []) (Loaded (n + 1)) (h ++ b ∷ []) []
  load_runs q h n b l e =
      let t : ltb n 2112 ≡ true = lt-ltb n 2112 l in
      runs_to (ap (λ c. move_to (phase.Loading w s c) None r) (next_in_page n l))
      (runs_plain (move_to q None r) h (data_byte b) (act.Load w s (record { number = n }) b) refl m (e b ∙ simp t))

  loads_run : (bs : List ℕ) (h : List ℕ) (n : ℕ) → n + length bs ≤ 2112 → Runs (Loaded n) h (map data_byte bs) (Loaded (n + length bs)) (h ++ bs) []
  loads_run [] h n l = subst (λ i. Runs (Loaded n) h [] (Loaded (n + 0)) i []) (sym (append-nil h)) (runs_to (ap Loaded (omega arith)) (runs_none (Loaded n) h))
  loads_run (b ∷ bs) h n l =
      subst (λ i. Runs (Loaded n) h (map data_byte (b ∷ bs)) (Loaded (n + length (b ∷ bs))) i []) (append_assoc h (b ∷ []) bs)
      (runs_to (ap Loaded (omega arith)) (runs_then (load_runs (phase.Loading w s (record { number = n })) h n b (omega arith) (λ d. refl)) (loads_run bs (h ++ b ∷ []) (n + 1) (omega arith))))

  bytes_run : (bs : List ℕ) → 0 < length bs → s.number + length bs ≤ 2112
      → Runs (move_to (phase.Addressed setup.Program s w) None r) [] (map data_byte bs) (Loaded (s.number + length bs)) bs []
  bytes_run [] z l = absurd (omega arith)
  bytes_run (b ∷ bs) z l =
      runs_to (ap Loaded (omega arith))
      (runs_then (load_runs (phase.Addressed setup.Program s w) [] s.number b (omega arith) (λ d. refl)) (loads_run bs (b ∷ []) (s.number + 1) (omega arith)))

-- 10h or 15h after them
abbrev pub GivenBytes : Confirm → Type 0
GivenBytes confirm.Program = Unit {0}
GivenBytes confirm.Cache = Unit {0}
GivenBytes confirm.Copy = ⊥

module _ (r : Reader) (p : Part) (k : Calm r p) (w : Row) (l : w.number < 64 * blocks_of p) where
  confirm_act : (f : Confirm) (c n : Column) → GivenBytes f → act_of (move_to (phase.Loading w c n) None r).bus (command (confirming f)) ≡ act.Program w c f
  confirm_act confirm.Program c n g = simp k.idle
  confirm_act confirm.Cache c n g = simp k.idle
  confirm_act confirm.Copy c n g = absurd g

  pub program_runs : (c : Column) (bs : List ℕ) (f : Confirm) → GivenBytes f → 0 < length bs → c.number + length bs ≤ 2112 → in_chain r.bus.chain w ≡ true
      → Runs r [] (program_cycles (Some p) w c bs f) (after_program w c f r) [] (program f (place w c) bs ∷ [])
  program_runs c bs f g z i q =
      runs_then (runs_plain r [] (command op.Program) (act.Prepare (phase.Addressing setup.Program nothing_given) None) refl k.breaches (simp (k.idle, k.quiet, k.part)))
      (runs_then (address_runs r [] k.breaches p k.part w l q c (omega arith) setup.Program None)
      (runs_then (bytes_run r k.breaches w c bs z i)
      (runs_one (move_to (phase.Loading w c (record { number = c.number + length bs })) None r) bs (command (confirming f)) (act.Program w c f)
      (confirm_act f c (record { number = c.number + length bs }) g))))

  -- the page that waits to be copied
  pub copy_runs : closed r.bus.chain ≡ true → copy_up r.bus.register ≡ true
      → Runs r [] (copy_cycles (Some p) w) (after_program w first_column confirm.Copy r) [] (program confirm.Copy (place w first_column) [] ∷ [])
  copy_runs shut up =
      runs_then (runs_plain r [] (command op.CopyProgram) (act.Prepare (phase.Addressing setup.Copy nothing_given) None) refl k.breaches (simp (k.idle, k.quiet, shut, k.part, up)))
      (runs_then (address_runs r [] k.breaches p k.part w l (no_chain r.bus.chain w shut) first_column (omega arith) setup.Copy None)
      (runs_one (move_to (phase.Addressed setup.Copy first_column w) None r) [] (command op.ProgramConfirm) (act.Program w first_column confirm.Copy) (simp k.idle)))
