use Rattle.std.proofs.Common.{ℕ, ◌≤◌, List, length, refl, sym, subst}
use Rattle.flash.specs.declared.page.Page.{Page}
use Rattle.calls.specs.declared.call.Call.{Call}
use Rattle.driver.specs.Outcomes.{added_cycles}
use Rattle.driver.proofs.Calleds.{Passed, passed, chain_known, chain_room}
use Rattle.driver.proofs.session.Session.chain.Goals as goal

pub add_page-requires : goal.add_page-requires
add_page-requires g c =
    let s = c.args.self.now in
    let f = c.args.confirm in
    let n = c.args.slip.now.number in
    let C : Call → Type 0 = λ x. Passed g.P.Port s x c.args.bytes.now in
    let k = subst C c.chain_call.ensures (passed g.P.Port s c.chain_call.result c.args.bytes.now c.in_ok-admit.ensures) in
    let P : Page → Type 0 = λ y. (rs : List ℕ) → length (added_cycles f s.state y c.args.column c.args.bytes.now rs) ≤ (g.P.Port.meaning s.port).room in
    record {
      known = chain_known n c.args.page c.args.column f k refl;
      room = subst P (sym c.chain_page.ensures) (chain_room n c.args.page c.args.column f c.requires k);
    }
