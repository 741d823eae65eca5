-- The reader that a session's view describes, and what an accepted call may build on.
use Rattle.std.proofs.Common.{◌≡◌, ℕ, ◌+◌, ◌/◌, ◌%◌, ◌<◌, ◌≤◌, Bool, true, false, cond, ◌&&◌, eqb, ltb, leb, Some, None, Option, sym, refl, ap, ◌∙◌, subst, arith}
use Rattle.std.proofs.lemmas.Bool.{ltb-true, leb-true, eqb-true, and_parts}
use Rattle.flash.specs.Addresses.{row_at, block_of}
use Rattle.flash.specs.declared.address.Column.{Column}
use Rattle.flash.specs.declared.fault.Fault.{Fault}
use Rattle.flash.specs.declared.fault.Fault.TheVariants as fault
use Rattle.flash.specs.declared.page.Page.{Page}
use Rattle.flash.specs.declared.part.Part.{Part}
use Rattle.bus.specs.Bus.{Reader}
use Rattle.bus.specs.States.{blocks_in, quiet, idle, closed, work_of}
use Rattle.bus.specs.Acts.{in_chain}
use Rattle.bus.specs.declared.state.Phase.{Phase}
use Rattle.bus.specs.declared.state.Work.{Work}
use Rattle.bus.specs.declared.state.Work.TheVariants as work
use Rattle.bus.specs.declared.state.PageRead.{PageRead}
use Rattle.record.specs.Judgements.{or_else}
use Rattle.calls.specs.Table.{chain_page}
use Rattle.calls.specs.Told.{InPart, Span, Fits, Rests, Chains, Begins}
use Rattle.calls.specs.declared.call.Call.{Call}
use Rattle.calls.specs.declared.call.Call.TheVariants as call
use Rattle.driver.specs.Views.{View, block_page, erase_slip, program_slip, chain_slip, slip_out, block_at_work, is_stuck}
use Rattle.driver.specs.Views as views
use Rattle.driver.specs.Refusals.{free_fault, is_out, slip_fault, state_fault, block_fault, page_fault, span_fault, page_span_fault, argument_fault}
use Rattle.driver.specs.declared.standing.Standing.{Standing}
use Rattle.driver.specs.declared.standing.Standing.TheVariants as standing

-- ## The reader of a view

abbrev pub reader_at : View → Phase → Option Work → Option PageRead → Option ℕ → Reader
reader_at v h b g k = record { bus = record { part = v.part; phase = h; busy = b; register = g; chain = k; breaches = 0 }; blocks = v.blocks }

-- what is busy, and the chain, by the standing
abbrev pub Works : Option Part → Standing → Option Work → Option ℕ → Type 0
Works o standing.Ready b k = (b ≡ None) × (k ≡ None)
Works o standing.Stuck b k = (work_of b None ≡ None) × (k ≡ None)
Works o (standing.Erasing x) b k = (b ≡ Some (work.Erase x)) × (k ≡ None)
Works o (standing.Programming p) b k = b ≡ Some (work.Program p.block)
Works o (standing.Chaining p) b k = (b ≡ Some work.CachePage) × (k ≡ Some p.block) × InPart o p

-- the reader is the view's, with no breach; only what is busy in a stuck session, register and a quiet phase are free
pub record Held (v : View) (r : Reader) : Type 0 where
  pub phase : Phase
  pub busy : Option Work
  pub register : Option PageRead
  pub chain : Option ℕ
  pub calm : quiet phase ≡ true
  pub works : Works v.part v.standing busy chain
  pub is : r ≡ reader_at v phase busy register chain

-- ## The first reason of several

pub some_none : {A : Type 0} {x : A} → Some x ≡ None → ⊥
some_none e = let z : ◌≡◌ {A = ℕ} 0 1 = cc in omega arith

pub or_none : (x y : Option Fault) → or_else x y ≡ None → (x ≡ None) × (y ≡ None)
or_none None y e = (refl, e)
or_none (Some f) y e = absurd (some_none e)

unless_none : (b : Bool) (f : Fault) → cond b None (Some f) ≡ None → b ≡ true
unless_none true f e = refl
unless_none false f e = absurd (some_none e)

when_none : (b : Bool) (f : Fault) (x : Option Fault) → cond b (Some f) x ≡ None → (b ≡ false) × (x ≡ None)
when_none true f x e = absurd (some_none e)
when_none false f x e = (refl, e)

-- ## Arguments that passed

block_in : (o : Option Part) (b : ℕ) → block_fault o b ≡ None → b < blocks_in o
block_in o b e = ltb-true b (blocks_in o) (unless_none (ltb b (blocks_in o)) (fault.NoSuchBlock b) e)

page_in_lem : (o : Option Part) (limit : ℕ) (p : Page) → limit ≤ 64 → page_fault o limit p ≡ None → InPart o p
page_in_lem o limit p l e =
    let x = or_none (block_fault o p.block) _ e in
    record { block = block_in o p.block x.0; page = omega (arith, ltb-true p.page limit (unless_none (ltb p.page limit) (fault.NoSuchPage p) x.1)) }

span_in : (p : Page) (c : Column) (len : ℕ) → span_fault p c len ≡ None → Span c len
span_in p c len e =
    let x = and_parts (ltb 0 len) (leb (c.number + len) 2112) (unless_none (ltb 0 len && leb (c.number + len) 2112) (fault.NoSuchSpan p) e) in
    record { some = ltb-true 0 len x.0; fits = leb-true (c.number + len) 2112 x.1 }

both_in : (o : Option Part) (p : Page) (c : Column) (len : ℕ) → page_span_fault o p c len ≡ None → InPart o p × Span c len
both_in o p c len e = let x = or_none (page_fault o 64 p) (span_fault p c len) e in (page_in_lem o 64 p (omega arith) x.0, span_in p c len x.1)

pub fits : (o : Option Part) (c : Call) (z : ℕ) → argument_fault o c z ≡ None → Fits o c z
fits o call.Identify z e = tt
fits o (call.Look p) z e = page_in_lem o 2 p (omega arith) e
fits o call.Close z e = tt
fits o (call.Read p c len) z e = both_in o p c len e
fits o (call.Erase b) z e = block_in o b e
fits o (call.Program p c) z e = both_in o p c z e
fits o (call.CacheFirst p c) z e = both_in o p c z e
fits o (call.CacheNext n g c) z e = both_in o (chain_page n g) c z e
fits o (call.CacheLast n g c) z e = both_in o (chain_page n g) c z e
fits o (call.Copy p q) z e = let x = or_none (page_fault o 64 p) (page_fault o 64 q) e in (page_in_lem o 64 p (omega arith) x.0, page_in_lem o 64 q (omega arith) x.1)
fits o (call.Settle n) z e = tt
fits o (call.Abandon n) z e = tt
fits o call.Reset z e = tt
fits o (call.Pick b) z e = tt
fits o (call.Record b) z e = tt

-- ## States that passed

pub free_ready : (s : Standing) → free_fault s ≡ None → s ≡ standing.Ready
free_ready standing.Ready e = refl
free_ready standing.Stuck e = absurd (some_none e)
free_ready (standing.Erasing b) e = absurd (some_none e)
free_ready (standing.Programming p) e = absurd (some_none e)
free_ready (standing.Chaining p) e = absurd (some_none e)

-- a slip that passed is the one that is out, of the right kind
pub slip_out_lem : (s : Standing) (n : ℕ) (kind : Bool) → slip_fault s n kind ≡ None → (is_out (slip_out s) n ≡ true) × (kind ≡ true)
slip_out_lem s n kind e =
    let x = when_none (is_stuck s) fault.Stuck _ e in
    and_parts (is_out (slip_out s) n) kind (unless_none (is_out (slip_out s) n && kind) fault.WrongSlip x.1)

blocks_most : (o : Option Part) → blocks_in o ≤ 2048
blocks_most o = grind arith

-- the page of a chain's slip is in the chain's block
pub chain_block : (o : Option Part) (p : Page) (n g : ℕ) → InPart o p → chain_slip p ≡ n → (chain_page n g).block ≡ p.block
chain_block o p n g i e =
    ap (λ m. m / 512 % 65536) (sym e) ∙ omega (arith, i.block, i.page, blocks_most o)

chain_names : (o : Option Part) (p : Page) (n g : ℕ) → InPart o p → chain_slip p ≡ n → g < 64 → in_chain (Some p.block) (row_at (chain_page n g)) ≡ true
chain_names o p n g i e l =
    let b : (chain_page n g).block ≡ p.block = chain_block o p n g i e in
    let x : block_of (row_at (chain_page n g)) ≡ p.block = omega (arith, b) in
    ap (λ y. eqb y p.block) x ∙ grind arith

rests : (v : View) (r : Reader) → Held v r → free_fault v.standing ≡ None → Rests r
rests v r k e =
    let s = free_ready v.standing e in
    let w : Works v.part standing.Ready k.busy k.chain = subst (λ x. Works v.part x k.busy k.chain) s k.works in
    record {
      idle = ap (λ (q : Reader). idle q.bus.busy) k.is ∙ ap idle w.0;
      quiet = ap (λ (q : Reader). quiet q.bus.phase) k.is ∙ k.calm;
      closed = ap (λ (q : Reader). closed q.bus.chain) k.is ∙ ap closed w.1;
    }

chains_by : (s : Standing) (o : Option Part) (b : Option Work) (k : Option ℕ) (n g : ℕ) → Works o s b k → slip_fault s n (views.in_chain s) ≡ None → g < 64 → in_chain k (row_at (chain_page n g)) ≡ true
chains_by standing.Ready o b k n g w e l = absurd (grind (arith, (slip_out_lem standing.Ready n false e).1))
chains_by standing.Stuck o b k n g w e l = absurd (some_none e)
chains_by (standing.Erasing x) o b k n g w e l = absurd (grind (arith, (slip_out_lem (standing.Erasing x) n false e).1))
chains_by (standing.Programming p) o b k n g w e l = absurd (grind (arith, (slip_out_lem (standing.Programming p) n false e).1))
chains_by (standing.Chaining p) o b k n g w e l =
    let m = eqb-true (chain_slip p) n (slip_out_lem (standing.Chaining p) n true e).0 in
    ap (λ x. in_chain x (row_at (chain_page n g))) w.1 ∙ chain_names o p n g w.2 m l

chains : (v : View) (r : Reader) (n g : ℕ) → Held v r → slip_fault v.standing n (views.in_chain v.standing) ≡ None → g < 64 → Chains r (chain_page n g)
chains v r n g k e l = record {
  quiet = ap (λ (q : Reader). quiet q.bus.phase) k.is ∙ k.calm;
  chain = ap (λ (q : Reader). in_chain q.bus.chain (row_at (chain_page n g))) k.is ∙ chains_by v.standing v.part k.busy k.chain n g k.works e l;
}

pub begins : (v : View) (r : Reader) (c : Call) (z : ℕ) → Held v r → state_fault v.part v.standing c ≡ None → Fits v.part c z → Begins c r
begins v r call.Identify z k e i = tt
begins v r (call.Look p) z k e i = rests v r k e
begins v r call.Close z k e i = tt
begins v r (call.Read p c len) z k e i = rests v r k e
begins v r (call.Erase b) z k e i = rests v r k e
begins v r (call.Program p c) z k e i = rests v r k e
begins v r (call.CacheFirst p c) z k e i = rests v r k e
begins v r (call.CacheNext n g c) z k e i = chains v r n g k e i.0.page
begins v r (call.CacheLast n g c) z k e i = chains v r n g k e i.0.page
begins v r (call.Copy p q) z k e i = rests v r k e
begins v r (call.Settle n) z k e i = ap (λ (q : Reader). quiet q.bus.phase) k.is ∙ k.calm
begins v r (call.Abandon n) z k e i = tt
begins v r call.Reset z k e i = tt
begins v r (call.Pick b) z k e i = tt
begins v r (call.Record b) z k e i = tt
