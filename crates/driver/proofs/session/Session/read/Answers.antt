use Rattle.std.proofs.Common.{[], length, refl}
use Rattle.calls.specs.declared.call.Call.TheVariants as call
use Rattle.driver.specs.Refusals.{page_fault}
use Rattle.driver.proofs.Admits.{or_none}
use Rattle.driver.proofs.Calleds.{passed, enough, page_known}
use Rattle.driver.proofs.Looks.{in_block}
use Rattle.driver.proofs.session.Session.read.Goals as goal

pub fetch-requires : goal.fetch-requires
fetch-requires g c =
    let s = c.args.self.now in
    let k = passed g.P.Port s (call.Read c.args.page c.args.column (length c.args.buffer.now)) [] c.in_ok-admit.ensures in
    record {
      known = page_known s.state.part c.args.page _ k.arguments refl;
      inside = in_block s.state.part 64 c.args.page (or_none (page_fault s.state.part 64 c.args.page) _ k.arguments).0;
      room = enough k;
    }
