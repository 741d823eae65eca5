use Rattle.std.proofs.Common.{◌≡◌, map, vec_items}
use Rattle.std.specs.List.{flat_map}
use Rattle.bus_log.specs.Logs.{standing, reads}
use Rattle.test_logs.specs.Runs.{begun_with}
use Rattle.test_logs.proofs.Lines.{ended}
use Rattle.test_logs.proofs.run.read_run.Given as goal

-- the lines so far are read
abbrev pub invariant-loop-line : goal.invariant-loop-line
invariant-loop-line l =
    reads (begun_with (vec_items l.initial.cycles)) (flat_map ended (map (λ x. x.now) l.yielded)) ≡ standing l.log (vec_items l.cycles)
