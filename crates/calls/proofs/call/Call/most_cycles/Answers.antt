use Rattle.calls.proofs.Lengths.{within_most}
use Rattle.calls.proofs.Theorems.{told_back}
use Rattle.calls.proofs.call.Call.most_cycles.Goals as goal

pub returns : goal.returns
returns c = record {
  most = c.most_of.ensures;
  within = within_most c.args.part c.args.polls c.args.self c.args.count;
  told = told_back c.args.part c.args.polls c.args.self;
}
