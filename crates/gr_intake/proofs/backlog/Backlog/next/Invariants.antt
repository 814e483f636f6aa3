use Rattle.gr_model.proofs.Common.{◌≡◌, ◌-◌, length}
use Rattle.gr_intake.specs.Waiting.{ArePieces}
use Rattle.gr_intake.proofs.Backlogs.{coming, waiting_in}
use Rattle.gr_intake.proofs.backlog.Backlog.next.Given as goal

abbrev pub invariant-loop-self : goal.invariant-loop-self
invariant-loop-self g l = record {
  same : coming l.self-inside.header (waiting_in l.self-inside.pieces.items) ≡ l.fn.self;
  pieces : ArePieces l.self-inside.pieces.items l.self-inside.first;
}

abbrev pub decreases-loop-self : goal.decreases-loop-self
decreases-loop-self g l = length l.self-inside.pieces.items - l.self-inside.first
