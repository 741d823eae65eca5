-- The bus reader tells a call from its cycles.
use Rattle.std.specs.Prelude.{◌≡◌, ℕ, ◌+◌, ◌<◌, ◌≤◌, true, false, List, [], ◌∷◌, map, length, Some, None, Option}
use Rattle.flash.specs.Addresses.{row_at}
use Rattle.flash.specs.declared.address.Column.{Column}
use Rattle.flash.specs.declared.page.Page.{Page}
use Rattle.flash.specs.declared.part.Part.{Part}
use Rattle.bus.specs.Bus.{Reader, steps}
use Rattle.bus.specs.States.{blocks_in, quiet, idle, closed}
use Rattle.bus.specs.Acts.{in_chain}
use Rattle.bus.specs.declared.act.Confirm.TheVariants as confirm
use Rattle.events.specs.Events.{Place, Telling, events}
use Rattle.commands.specs.Polls.{polled, left, first_of}
use Rattle.calls.specs.Table.{chain_page, cycles}
use Rattle.calls.specs.Deeds.{Deed, reset, identity, read, out, erase, program, deeds, decode}
use Rattle.calls.specs.Afters.{after}
use Rattle.calls.specs.declared.call.Call.{Call}
use Rattle.calls.specs.declared.call.Call.TheVariants as call

abbrev pub place_in : Page → ℕ → Place
place_in p c = record { block = p.block; page = p.page; column = c }

abbrev pub deeds_if_ready : Option ℕ → List Deed → List Deed
deeds_if_ready None ds = []
deeds_if_ready (Some s) ds = ds

abbrev read_deeds : Page → ℕ → ℕ → ℕ → List ℕ → List Deed
read_deeds p c n len rs = read false (place_in p c) ∷ deeds_if_ready (polled n rs) (map out (first_of len (left n rs)))

-- what a call does, in its own words: operation, block, page, column and bytes
abbrev pub call_deeds : ℕ → Call → List ℕ → List ℕ → List Deed
call_deeds n call.Identify bs rs = reset ∷ deeds_if_ready (polled n rs) (identity (first_of 5 (left n rs)) ∷ [])
call_deeds n (call.Look p) bs rs = read_deeds p 2048 n 1 rs
call_deeds n call.Close bs rs = []
call_deeds n (call.Read p c len) bs rs = read_deeds p c.number n len rs
call_deeds n (call.Erase b) bs rs = erase b ∷ []
call_deeds n (call.Program p c) bs rs = program confirm.Program (place_in p c.number) bs ∷ []
call_deeds n (call.CacheFirst p c) bs rs = program confirm.Cache (place_in p c.number) bs ∷ []
call_deeds n (call.CacheNext s g c) bs rs = deeds_if_ready (polled n rs) (program confirm.Cache (place_in (chain_page s g) c.number) bs ∷ [])
call_deeds n (call.CacheLast s g c) bs rs = deeds_if_ready (polled n rs) (program confirm.Program (place_in (chain_page s g) c.number) bs ∷ [])
call_deeds n (call.Copy p q) bs rs = read true (place_in p 0) ∷ deeds_if_ready (polled n rs) (program confirm.Copy (place_in q 0) [] ∷ [])
call_deeds n (call.Settle s) bs rs = []
call_deeds n (call.Abandon s) bs rs = reset ∷ []
call_deeds n call.Reset bs rs = reset ∷ []
call_deeds n (call.Pick b) bs rs = []
call_deeds n (call.Record b) bs rs = []

-- arguments that the part has
pub record InPart (o : Option Part) (p : Page) : Type 0 where
  pub block : p.block < blocks_in o
  pub page : p.page < 64

pub record Span (c : Column) (len : ℕ) : Type 0 where
  pub some : 0 < len
  pub fits : c.number + len ≤ 2112

abbrev pub Fits : Option Part → Call → ℕ → Type 0
Fits o call.Identify z = Unit {0}
Fits o (call.Look p) z = InPart o p
Fits o call.Close z = Unit {0}
Fits o (call.Read p c len) z = InPart o p × Span c len
Fits o (call.Erase b) z = b < blocks_in o
Fits o (call.Program p c) z = InPart o p × Span c z
Fits o (call.CacheFirst p c) z = InPart o p × Span c z
Fits o (call.CacheNext s g c) z = InPart o (chain_page s g) × Span c z
Fits o (call.CacheLast s g c) z = InPart o (chain_page s g) × Span c z
Fits o (call.Copy p q) z = InPart o p × InPart o q
Fits o (call.Settle s) z = Unit {0}
Fits o (call.Abandon s) z = Unit {0}
Fits o call.Reset z = Unit {0}
Fits o (call.Pick b) z = Unit {0}
Fits o (call.Record b) z = Unit {0}

-- nothing busy, nothing half given, no chain
pub record Rests (r : Reader) : Type 0 where
  pub idle : idle r.bus.busy ≡ true
  pub quiet : quiet r.bus.phase ≡ true
  pub closed : closed r.bus.chain ≡ true

-- anything may be busy, and a chain, if one is open, is of this page's block
pub record Chains (r : Reader) (p : Page) : Type 0 where
  pub quiet : quiet r.bus.phase ≡ true
  pub chain : in_chain r.bus.chain (row_at p) ≡ true

-- where a call may begin: reset and abandon anywhere, settle and the later cache calls whatever is busy
abbrev pub Begins : Call → Reader → Type 0
Begins call.Identify r = Unit {0}
Begins (call.Look p) r = Rests r
Begins call.Close r = Unit {0}
Begins (call.Read p c len) r = Rests r
Begins (call.Erase b) r = Rests r
Begins (call.Program p c) r = Rests r
Begins (call.CacheFirst p c) r = Rests r
Begins (call.CacheNext s g c) r = Chains r (chain_page s g)
Begins (call.CacheLast s g c) r = Chains r (chain_page s g)
Begins (call.Copy p q) r = Rests r
Begins (call.Settle s) r = quiet r.bus.phase ≡ true
Begins (call.Abandon s) r = Unit {0}
Begins call.Reset r = Unit {0}
Begins (call.Pick b) r = Unit {0}
Begins (call.Record b) r = Unit {0}

-- what the reader tells of the call's cycles, and what it holds after them
pub record Told (n : ℕ) (c : Call) (bs rs : List ℕ) (t : Telling) : Type 0 where
  pub tells : deeds (events t (cycles t.reader.bus.part n c bs rs)) ≡ call_deeds n c bs rs
  pub leaves : steps t.reader (cycles t.reader.bus.part n c bs rs) ≡ after n c bs rs t.reader

-- for whatever bytes and replies, and from every reader where the call may begin; also from the part alone
pub record ToldBack (o : Option Part) (n : ℕ) (c : Call) : Type 0 where
  pub told : (bs rs : List ℕ) (t : Telling) → t.reader.bus.part ≡ o → t.hand ≡ [] → t.reader.bus.breaches ≤ 65535 → Fits o c (length bs) → Begins c t.reader
      → Told n c bs rs t
  pub decoded : (bs rs : List ℕ) → Fits o c (length bs) → decode o (cycles o n c bs rs) ≡ call_deeds n c bs rs
