use Rattle.std.proofs.Common.{◌≡◌, [], length, Some, None, refl, ap, ◌∙◌, arith}
use Rattle.std.proofs.lemmas.Result.{err_from_is_err_and}
use Rattle.commands.specs.Polls.{left, first_of}
use Rattle.calls.specs.declared.call.Call.TheVariants as call
use Rattle.driver.specs.Outcomes.{standing_at, identifying, identified_by}
use Rattle.driver.specs.Views.{View}
use Rattle.driver.specs.declared.standing.Standing.TheVariants as standing
use Rattle.driver.proofs.Calleds.{called_did, passed, enough, did_late}
use Rattle.driver.proofs.Identities.{identity_late, identity_cut, identity_came}
use Rattle.driver.proofs.session.Session.identify.Goals as goal

pub returns-in_err-send_reset : goal.returns-in_err-send_reset
returns-in_err-send_reset g c =
    let q = err_from_is_err_and c.from_residual-in_err-send_reset.result c.from_residual-in_err-send_reset.ensures.1 in
    let v = c.args.self.now.state in
    let k = passed g.P.Port c.args.self.now call.Identify [] c.in_ok-admit.ensures in
    let t = rw c.polls-polls.ensures at c.in_err-send_reset.ensures in
    rw (q.1, q.2) (called_did k (did_late (λ rs o. identified_by v (first_of 5 (left v.polls rs)) o) (enough k) refl (λ rs. refl) (λ rs. c.stand.ensures) (identity_late k t)))

pub returns-in_err-bytes : goal.returns-in_err-bytes
returns-in_err-bytes g c =
    let k = passed g.P.Port c.args.self.now call.Identify [] c.in_ok-admit.ensures in
    let t = rw c.polls-polls.ensures at c.in_ok-send_reset.ensures in
    absurd (identity_cut k t c.in_err-bytes.ensures.1)

pub returns-in_err-part : goal.returns-in_err-part
returns-in_err-part g c =
    let q = err_from_is_err_and c.from_residual-in_err-part.result c.from_residual-in_err-part.ensures.1 in
    let k = passed g.P.Port c.args.self.now call.Identify [] c.in_ok-admit.ensures in
    let t = rw c.polls-polls.ensures at c.in_ok-send_reset.ensures in
    let l : length c.in_ok-bytes.bytes ≡ 5 = omega arith in
    let e = c.stand-2.ensures ∙ ap (λ (w : View). standing_at w standing.Ready) c.stand.ensures in
    rw (q.1, q.2) (identity_came k t c.in_ok-bytes.bytes None l c.in_err-part.ensures.value refl e c.in_ok-bytes.ensures)

pub returns : goal.returns
returns g c =
    let k = passed g.P.Port c.args.self.now call.Identify [] c.in_ok-admit.ensures in
    let t = rw c.polls-polls.ensures at c.in_ok-send_reset.ensures in
    let l : length c.in_ok-bytes.bytes ≡ 5 = omega arith in
    let e = c.stand-2.ensures ∙ ap (λ (w : View). standing_at w standing.Ready) c.stand.ensures in
    identity_came k t c.in_ok-bytes.bytes (Some c.in_ok-part.part) l c.in_ok-part.ensures.value refl (c.identify.ensures ∙ ap (λ (w : View). identifying w (Some c.in_ok-part.part)) e) c.in_ok-bytes.ensures
