use Rattle.gr_model.proofs.Common.{◌≡◌, ◌++◌, ◌+◌, length, IsFalse}
use Rattle.gr_route.specs.WorkRule.{is_stopped}
use Rattle.gr_sequencer_thread.proofs.way.Way.pass_all.Given as goal

abbrev pub invariant-loop-passed : goal.invariant-loop-passed
invariant-loop-passed g l =
    (l.outlet.pushed ++ l.self ≡ l.fn.outlet.pushed ++ l.fn.self) × (l.outlet.queue ≡ l.fn.outlet.queue) × IsFalse (is_stopped l.outlet.pushed)

abbrev pub decreases-loop-passed : goal.decreases-loop-passed
decreases-loop-passed g l = length l.self + l.passed
