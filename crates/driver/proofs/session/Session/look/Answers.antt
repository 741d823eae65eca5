use Rattle.std.proofs.Common.{[], refl, arith}
use Rattle.calls.specs.declared.call.Call.TheVariants as call
use Rattle.driver.specs.Refusals.{block_fault}
use Rattle.driver.proofs.Admits.{or_none}
use Rattle.driver.proofs.Calleds.{passed, enough, part_known}
use Rattle.driver.proofs.Looks.{in_block, look_room}
use Rattle.driver.proofs.session.Session.look.Goals as goal

pub fetch-requires : goal.fetch-requires
fetch-requires g c =
    let s = c.args.self.now in
    let k = passed g.P.Port s (call.Look c.args.page) [] c.in_ok-admit.ensures in
    record {
      known = part_known s.state.part c.args.page.block (or_none (block_fault s.state.part c.args.page.block) _ k.arguments).0 refl;
      inside = omega (arith, in_block s.state.part 2 c.args.page k.arguments);
      room = look_room c.new.ensures c.args.page s.state.part s.state.polls (enough k);
    }
