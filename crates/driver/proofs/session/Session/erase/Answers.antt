use Rattle.std.proofs.Common.{[], ap, ◌∙◌}
use Rattle.commands.specs.Sequences.{erase_cycles}
use Rattle.commands.proofs.Runs.{ran_as}
use Rattle.calls.specs.declared.call.Call.TheVariants as call
use Rattle.driver.specs.Outcomes.{slip, standing_at}
use Rattle.driver.specs.Views.{View}
use Rattle.driver.specs.declared.standing.Standing.TheVariants as standing
use Rattle.driver.proofs.Calleds.{called_accepted, passed, never_cut, part_known, both}
use Rattle.driver.proofs.session.Session.erase.Goals as goal

pub returns-in_err-send_erase : goal.returns-in_err-send_erase
returns-in_err-send_erase g c =
    let k = passed g.P.Port c.args.self.now (call.Erase c.args.block) [] c.in_ok-admit.ensures in
    absurd (never_cut k [] (both erase_cycles (part_known c.args.self.now.state.part c.args.block k.arguments c.part_or.ensures) c.row.ensures) c.in_err-send_erase.ensures.1)

pub returns : goal.returns
returns g c =
    let k = passed g.P.Port c.args.self.now (call.Erase c.args.block) [] c.in_ok-admit.ensures in
    called_accepted k [] (ap slip c.begin-number.ensures.slip)
    (c.begin-number.ensures.state ∙ ap (λ (v : View). standing_at v (standing.Erasing c.args.block)) c.forget_pages.ensures)
    (ran_as (both erase_cycles (part_known c.args.self.now.state.part c.args.block k.arguments c.part_or.ensures) c.row.ensures) c.in_ok-send_erase.ensures)
