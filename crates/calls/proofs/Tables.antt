-- Every call of the table: what is told of its cycles, and the reader after them.
use Rattle.std.proofs.Common.{◌≡◌, ℕ, zero, suc, ◌+◌, ◌*◌, ◌/◌, ◌%◌, ◌<◌, ◌≤◌, Bool, true, false, List, [], ◌∷◌, ◌++◌, map, length, Some, None, Option, refl, ap, ◌∙◌, subst, arith}
use Rattle.flash.specs.declared.address.Column.{Column}
use Rattle.flash.specs.declared.address.Row.{Row}
use Rattle.flash.specs.declared.cycle.Cycle.{Cycle}
use Rattle.flash.specs.declared.opcode.Opcode.TheVariants as op
use Rattle.flash.specs.declared.part.Part.{Part}
use Rattle.flash.specs.Parts.{blocks_of}
use Rattle.bus.specs.Acts.{in_chain}
use Rattle.bus.specs.Bus.{Reader}
use Rattle.bus.specs.States.{idle, copy_up}
use Rattle.bus.specs.declared.act.Act.TheVariants as act
use Rattle.flash.specs.Addresses.{row_at}
use Rattle.flash.specs.Statuses.{ready}
use Rattle.flash.specs.declared.page.Page.{Page}
use Rattle.bus.specs.States.{blocks_in}
use Rattle.bus.specs.declared.act.Confirm.{Confirm}
use Rattle.bus.specs.declared.act.Confirm.TheVariants as confirm
use Rattle.bus.specs.declared.state.Work.{Work}
use Rattle.events.specs.Events.{place}
use Rattle.port.specs.Meanings.{gave}
use Rattle.commands.specs.Polls.{command, polled, left, first_of, poll_cycles}
use Rattle.commands.specs.Sequences.{first_column, out_cycles, read_cycles, program_cycles, copy_cycles, identity_cycles, reset_cycles}
use Rattle.calls.specs.Table.{mark_column, block_row, chain_page, once_ready, cycles}
use Rattle.calls.specs.Afters.{after_poll, after_reset, after_open, after_bytes, after_program, after_identity, if_ready, after, page_read}
use Rattle.calls.specs.Deeds.{Deed, reset, identity, read, out, erase, program}
use Rattle.calls.specs.Told.{place_in, deeds_if_ready, call_deeds, InPart, Span, Fits, Rests, Chains, Begins}
use Rattle.calls.specs.declared.call.Call.{Call}
use Rattle.calls.specs.declared.call.Call.TheVariants as call
use Rattle.calls.proofs.Polled.{poll_runs, ends_ready, Readied, readied}
use Rattle.calls.proofs.Confirmed.{Calm, no_chain, GivenBytes, erase_runs, open_runs, program_runs, copy_runs}
use Rattle.calls.proofs.Outputs.{bytes_run, identity_runs}
use Rattle.calls.proofs.Goes.{Runs, runs_none, runs_then, runs_one}

-- a page's row, and back
row_in_part : (p : Part) (g : Page) → InPart (Some p) g → (row_at g).number < 64 * blocks_of p
row_in_part p g i = omega (arith, i.block, i.page)

place_of : (o : Option Part) (g : Page) (c : Column) → InPart o g → place (row_at g) c ≡ place_in g c.number
place_of o g c i =
    ap (λ b. record { block = b; page = (64 * g.block + g.page) % 64; column = c.number }) (let e : (64 * g.block + g.page) / 64 ≡ g.block = omega (arith, i.page) in e)
    ∙ ap (λ n. record { block = g.block; page = n; column = c.number }) (let e : (64 * g.block + g.page) % 64 ≡ g.page = omega (arith, i.page) in e)

is_idle : (b : Option Work) → idle b ≡ true → b ≡ None
is_idle b e = grind (arith, e)

calm : (r : Reader) (p : Part) → r.bus.part ≡ Some p → r.bus.breaches ≤ 65535 → Rests r → Calm r p
calm r p e m s = record { part = e; idle = is_idle r.bus.busy s.idle; quiet = s.quiet; breaches = m }

calm_again : (r s : Reader) (p : Part) → r.bus.part ≡ Some p → Readied r s → Calm s p
calm_again r s p e k = record { part = k.part ∙ e; idle = k.idle; quiet = k.quiet; breaches = k.breaches }

runs_tell : {r s : Reader} {cs : List Cycle} {ds es : List Deed} → ds ≡ es → Runs r [] cs s [] ds → Runs r [] cs s [] es
runs_tell {r} {s} {cs} e x = subst (λ fs. Runs r [] cs s [] fs) e x

-- what follows a poll
module _ (n : ℕ) (rs : List ℕ) where
  once_ready_lem : (r : Reader) (f : Reader → Reader) (cs : List Cycle) (ds : List Deed) (x : Option ℕ) → polled n rs ≡ x
      → ((s : ℕ) → polled n rs ≡ Some s → Runs (after_poll (Some s) r) [] cs (f (after_poll (Some s) r)) [] ds)
      → Runs (after_poll x r) [] (once_ready x cs) (if_ready x f (after_poll x r)) [] (deeds_if_ready x ds)
  once_ready_lem r f cs ds None e go = runs_none (after_poll None r) []
  once_ready_lem r f cs ds (Some s) e go = go s e

  bytes_ready : (r : Reader) (f : Reader → Reader) (len : ℕ) (x : Option ℕ) → polled n rs ≡ x
      → ((s : ℕ) → polled n rs ≡ Some s → Runs (after_poll (Some s) r) [] (command op.Read ∷ map gave (first_of len (left n rs))) (f (after_poll (Some s) r)) [] (map out (first_of len (left n rs))))
      → Runs (after_poll x r) [] (out_cycles x len (left n rs)) (if_ready x f (after_poll x r)) [] (deeds_if_ready x (map out (first_of len (left n rs))))
  bytes_ready r f len None e go = runs_none (after_poll None r) []
  bytes_ready r f len (Some s) e go = go s e

pub first_length : (n : ℕ) (rs : List ℕ) → length (first_of n rs) ≡ n
first_length zero rs = refl
first_length (suc n) [] = ap suc (first_length n [])
first_length (suc n) (b ∷ rs) = ap suc (first_length n rs)

-- the register after a page was opened and the chip became ready
opened_register : (r : Reader) (w : Row) (c : Column) (copy : Bool) (s : ℕ) → ready s ≡ true
    → (after_poll (Some s) (after_open w c copy r)).bus.register ≡ Some (page_read w c copy)
opened_register r w c copy s e = simp e

module _ (r : Reader) (p : Part) (known : r.bus.part ≡ Some p) (m : r.bus.breaches ≤ 65535) (rest : Rests r) where
  read_call : (n : ℕ) (rs : List ℕ) (g : Page) (c : Column) (len : ℕ) → InPart (Some p) g → Span c len
      → Runs r [] (read_cycles (Some p) n (row_at g) c len rs) (if_ready (polled n rs) (after_bytes (row_at g) c (first_of len (left n rs))) (after_poll (polled n rs) (after_open (row_at g) c false r))) []
      (read false (place_in g c.number) ∷ deeds_if_ready (polled n rs) (map out (first_of len (left n rs))))
  read_call n rs g c len i z =
      let k = calm r p known m rest in
      let w = row_at g in
      let o = after_open w c false r in
      runs_tell (ap (λ x. read false x ∷ deeds_if_ready (polled n rs) (map out (first_of len (left n rs)))) (place_of (Some p) g c i))
      (runs_then (open_runs r p k w (row_in_part p g i) c false op.ReadConfirm (omega (arith, z.fits)) rest.closed (simp (k.idle, rest.closed))
      (poll_runs o [] (omega arith) n rs refl))
      (bytes_ready n rs o (after_bytes w c (first_of len (left n rs))) len (polled n rs) refl
      (λ s e. let d = readied o n rs s e in
      bytes_run (after_poll (Some s) o) p (calm_again o (after_poll (Some s) o) p known d) w c false (first_of len (left n rs))
      (opened_register r w c false s (ends_ready n rs s e)) (d.closed rest.closed) (omega (arith, first_length len (left n rs), z.some)) (omega (arith, first_length len (left n rs), z.fits)))))

  copy_call : (n : ℕ) (rs : List ℕ) (g q : Page) → InPart (Some p) g → InPart (Some p) q
      → Runs r [] (cycles (Some p) n (call.Copy g q) [] rs) (after n (call.Copy g q) [] rs r) [] (call_deeds n (call.Copy g q) [] rs)
  copy_call n rs g q i j =
      let k = calm r p known m rest in
      let w = row_at g in
      let o = after_open w first_column true r in
      runs_tell (ap (λ x. read true x ∷ deeds_if_ready (polled n rs) (program confirm.Copy (place_in q 0) [] ∷ [])) (place_of (Some p) g first_column i))
      (runs_then (open_runs r p k w (row_in_part p g i) first_column true op.CopyReadConfirm (omega arith) rest.closed (simp (k.idle, rest.closed))
      (poll_runs o [] (omega arith) n rs refl))
      (once_ready_lem n rs o (after_program (row_at q) first_column confirm.Copy) (copy_cycles (Some p) (row_at q)) (program confirm.Copy (place_in q 0) [] ∷ []) (polled n rs) refl
      (λ s e. let d = readied o n rs s e in
      runs_tell (ap (λ x. program confirm.Copy x [] ∷ []) (place_of (Some p) q first_column j))
      (copy_runs (after_poll (Some s) o) p (calm_again o (after_poll (Some s) o) p known d) (row_at q) (row_in_part p q j) (d.closed rest.closed)
      (ap copy_up (opened_register r w first_column true s (ends_ready n rs s e)))))))

  erase_call : (b : ℕ) → b < blocks_of p → Runs r [] (cycles (Some p) 0 (call.Erase b) [] []) (after 0 (call.Erase b) [] [] r) [] (erase b ∷ [])
  erase_call b l =
      runs_tell (ap (λ x. erase x ∷ []) (let e : (64 * b + 0) / 64 ≡ b = omega arith in e))
      (erase_runs r p (calm r p known m rest) (block_row b) (omega arith) rest.closed)

program_call : (r : Reader) (p : Part) (k : Calm r p) (g : Page) (c : Column) (bs : List ℕ) (f : Confirm) → GivenBytes f → InPart (Some p) g → Span c (length bs) → in_chain r.bus.chain (row_at g) ≡ true
    → Runs r [] (program_cycles (Some p) (row_at g) c bs f) (after_program (row_at g) c f r) [] (program f (place_in g c.number) bs ∷ [])
program_call r p k g c bs f y i z q =
    runs_tell (ap (λ x. program f x bs ∷ []) (place_of (Some p) g c i)) (program_runs r p k (row_at g) (row_in_part p g i) c bs f y z.some z.fits q)

-- a later page of a chain, whatever is busy
cache_call : (r : Reader) (p : Part) (n : ℕ) (rs : List ℕ) (g : Page) (c : Column) (bs : List ℕ) (f : Confirm) → r.bus.part ≡ Some p → r.bus.breaches ≤ 65535
    → GivenBytes f → InPart (Some p) g → Span c (length bs) → Chains r g
    → Runs r [] (poll_cycles n rs ++ once_ready (polled n rs) (program_cycles (Some p) (row_at g) c bs f)) (if_ready (polled n rs) (after_program (row_at g) c f) (after_poll (polled n rs) r)) []
    (deeds_if_ready (polled n rs) (program f (place_in g c.number) bs ∷ []))
cache_call r p n rs g c bs f known m y i z q =
    runs_then (poll_runs r [] m n rs q.quiet)
    (once_ready_lem n rs r (after_program (row_at g) c f) (program_cycles (Some p) (row_at g) c bs f) (program f (place_in g c.number) bs ∷ []) (polled n rs) refl
    (λ s e. let d = readied r n rs s e in
    program_call (after_poll (Some s) r) p (calm_again r (after_poll (Some s) r) p known d) g c bs f y i z (d.chain (row_at g) q.chain)))

module _ (r : Reader) (m : r.bus.breaches ≤ 65535) (n : ℕ) (rs : List ℕ) where
  reset_call : Runs r [] (reset_cycles n rs) (after_poll (polled n rs) (after_reset r)) [] (reset ∷ [])
  reset_call = runs_then (runs_one r [] (command op.Reset) act.Reset refl) (poll_runs (after_reset r) [] (omega arith) n rs refl)

  identify_call : Runs r [] (reset_cycles n rs ++ once_ready (polled n rs) (identity_cycles (left n rs)))
      (if_ready (polled n rs) (after_identity (first_of 5 (left n rs))) (after_poll (polled n rs) (after_reset r))) [] (reset ∷ deeds_if_ready (polled n rs) (identity (first_of 5 (left n rs)) ∷ []))
  identify_call =
      runs_then reset_call
      (once_ready_lem n rs (after_reset r) (after_identity (first_of 5 (left n rs))) (identity_cycles (left n rs)) (identity (first_of 5 (left n rs)) ∷ []) (polled n rs) refl
      (λ s e. let d = readied (after_reset r) n rs s e in
      identity_runs (after_poll (Some s) (after_reset r)) (left n rs) d.idle d.quiet (d.closed refl) d.breaches))

-- no block lies in an unknown part
nowhere : {A : Type 0} (b : ℕ) → b < blocks_in None → A
nowhere b l = absurd (omega arith)

mark_span : Span mark_column 1
mark_span = record { some = omega arith; fits = omega arith }

abbrev RunsCall : ℕ → Call → List ℕ → List ℕ → Reader → Option Part → Type 0
RunsCall n c bs rs r o = Runs r [] (cycles o n c bs rs) (after n c bs rs r) [] (call_deeds n c bs rs)

-- every call, from every reader where it may begin
pub call_runs : (n : ℕ) (c : Call) (bs rs : List ℕ) (r : Reader) (o : Option Part) → r.bus.part ≡ o → r.bus.breaches ≤ 65535 → Fits o c (length bs) → Begins c r → RunsCall n c bs rs r o
call_runs n call.Identify bs rs r o e m i s = identify_call r m n rs
call_runs n (call.Look p) bs rs r None e m i s = nowhere p.block i.block
call_runs n (call.Look p) bs rs r (Some q) e m i s = read_call r q e m s n rs p mark_column 1 i mark_span
call_runs n call.Close bs rs r o e m i s = runs_none r []
call_runs n (call.Read p c len) bs rs r None e m i s = nowhere p.block i.0.block
call_runs n (call.Read p c len) bs rs r (Some q) e m i s = read_call r q e m s n rs p c len i.0 i.1
call_runs n (call.Erase b) bs rs r None e m i s = nowhere b i
call_runs n (call.Erase b) bs rs r (Some q) e m i s = erase_call r q e m s b i
call_runs n (call.Program p c) bs rs r None e m i s = nowhere p.block i.0.block
call_runs n (call.Program p c) bs rs r (Some q) e m i s = program_call r q (calm r q e m s) p c bs confirm.Program tt i.0 i.1 (no_chain r.bus.chain (row_at p) s.closed)
call_runs n (call.CacheFirst p c) bs rs r None e m i s = nowhere p.block i.0.block
call_runs n (call.CacheFirst p c) bs rs r (Some q) e m i s = program_call r q (calm r q e m s) p c bs confirm.Cache tt i.0 i.1 (no_chain r.bus.chain (row_at p) s.closed)
call_runs n (call.CacheNext k g c) bs rs r None e m i s = nowhere (chain_page k g).block i.0.block
call_runs n (call.CacheNext k g c) bs rs r (Some q) e m i s = cache_call r q n rs (chain_page k g) c bs confirm.Cache e m tt i.0 i.1 s
call_runs n (call.CacheLast k g c) bs rs r None e m i s = nowhere (chain_page k g).block i.0.block
call_runs n (call.CacheLast k g c) bs rs r (Some q) e m i s = cache_call r q n rs (chain_page k g) c bs confirm.Program e m tt i.0 i.1 s
call_runs n (call.Copy p q) bs rs r None e m i s = nowhere p.block i.0.block
call_runs n (call.Copy p q) bs rs r (Some x) e m i s = copy_call r x e m s n rs p q i.0 i.1
call_runs n (call.Settle k) bs rs r o e m i s = poll_runs r [] m n rs s
call_runs n (call.Abandon k) bs rs r o e m i s = reset_call r m n rs
call_runs n call.Reset bs rs r o e m i s = reset_call r m n rs
call_runs n (call.Pick b) bs rs r o e m i s = runs_none r []
call_runs n (call.Record b) bs rs r o e m i s = runs_none r []
