use Rattle.std.proofs.Common.{length, refl, arith}
use Rattle.driver.proofs.Lengthy.{read_answers}
use Rattle.driver.proofs.driver.Driver.read_all.Goals as goal

pub returns : goal.returns
returns g c =
    rw c.read_answer.ensures (
      refl,
      read_answers c.args.self.now.session c.read-came.new.self.session c.read-came.result c.args.page c.args.column c.args.length (length c.deref_mut.result.now) c.args.buffer.len
          c.read-came.new.buffer c.args.buffer.items (omega (arith, c.requires, c.deref_mut.ensures.len)) (omega (arith, c.deref_mut.ensures.len, c.read-came.auto.buffer)) c.read-came.ensures.called,
    )
