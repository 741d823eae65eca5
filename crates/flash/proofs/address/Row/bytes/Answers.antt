use Rattle.std.proofs.Common.{◌≡◌, ap, ◌∙◌, arith, rules}
use Rattle.std.proofs.lemmas.Grind.{common_steps}
use Rattle.flash.specs.Addresses.{number}
use Rattle.flash.proofs.Bytes.{bytes_more, comes_back}
use Rattle.flash.proofs.address.Row.bytes.Goals as goal

pub loop-byte-preserved : goal.loop-byte-preserved
loop-byte-preserved g c = (
  bytes_more g.row.N c.loop-byte.byte-index c.loop-byte.rest c.loop-byte.byte-items (omega arith) c.loop-byte.invariant.1 ∙ c.loop-byte.invariant.0,
  search rules,
)

pub returns-clause-back : goal.returns-clause-back
returns-clause-back g c h =
    let same : number c.loop-byte.byte-items ≡ c.args.self.number =
    grind (arith, common_steps, comes_back g.row.N c.args.self.number h) in
    ap (λ w. record { number = w }) same
