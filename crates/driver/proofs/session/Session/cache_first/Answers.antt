use Rattle.std.proofs.Common.{[], refl, ap}
use Rattle.flash.specs.Addresses.{row_at}
use Rattle.bus.specs.declared.act.Confirm.TheVariants as confirm
use Rattle.commands.specs.Sequences.{program_cycles}
use Rattle.commands.proofs.Runs.{ran_as}
use Rattle.calls.specs.declared.call.Call.TheVariants as call
use Rattle.driver.proofs.Calleds.{called_accepted, passed, never_cut, page_known}
use Rattle.driver.proofs.session.Session.cache_first.Goals as goal

pub returns-in_err-number : goal.returns-in_err-number
returns-in_err-number g c =
    let k = passed g.P.Port c.args.self.now (call.CacheFirst c.args.page c.args.column) c.args.bytes.now c.in_ok-admit.ensures in
    let e = ap (λ o. program_cycles o (row_at c.args.page) c.args.column c.args.bytes.now confirm.Cache) (page_known c.args.self.now.state.part c.args.page _ k.arguments refl) in
    absurd (never_cut k [] e c.in_err-number.ensures.sent.1)

pub returns : goal.returns
returns g c =
    let k = passed g.P.Port c.args.self.now (call.CacheFirst c.args.page c.args.column) c.args.bytes.now c.in_ok-admit.ensures in
    let e = ap (λ o. program_cycles o (row_at c.args.page) c.args.column c.args.bytes.now confirm.Cache) (page_known c.args.self.now.state.part c.args.page _ k.arguments refl) in
    called_accepted k [] c.in_ok-number.ensures.begun.0 c.in_ok-number.ensures.begun.1 (ran_as e c.in_ok-number.ensures.sent)
