use Rattle.std.proofs.lemmas.Result.{MatchResult-weaker}
use Rattle.std.proofs.Common.{length, Some, arith}
use Rattle.flash.specs.Addresses.{row_at}
use Rattle.commands.proofs.Runs.{passed_on}
use Rattle.commands.proofs.Deliveries.{read_stopped, read_ended, read_cut, read_short}
use Rattle.commands.proofs.read.send_read.Goals as goal

pub returns-in_err-open_page-clause-did : goal.returns-in_err-open_page-clause-did
returns-in_err-open_page-clause-did g c =
    passed_on c.from_residual.result _ _ _ c.from_residual.ensures.1
    (read_stopped (Some c.args.part) c.args.polls (row_at c.args.page) c.args.column (length c.args.buffer.now) c.in_err-open_page.ensures)

pub returns-in_err-put_command-clause-did : goal.returns-in_err-put_command-clause-did
returns-in_err-put_command-clause-did g c =
    passed_on c.from_residual-in_err-put_command.result _ _ _ c.from_residual-in_err-put_command.ensures.1
    (read_cut (Some c.args.part) c.args.polls (row_at c.args.page) c.args.column (length c.args.buffer.now) c.in_ok-open_page.ensures c.in_err-put_command.ensures)

pub returns-clause-did : goal.returns-clause-did
returns-clause-did g c =
    let o = Some c.args.part in
    let w = row_at c.args.page in
    let len = length c.args.buffer.now in
    MatchResult-weaker c.take_bytes.result c.take_bytes.ensures
    (λ v t. read_ended o c.args.polls w c.args.column len c.in_ok-open_page.ensures c.take_bytes.new.buffer (omega arith) c.in_ok-put_command.ensures t)
    (λ f t. read_short o c.args.polls w c.args.column len c.in_ok-open_page.ensures c.in_ok-put_command.ensures t)
