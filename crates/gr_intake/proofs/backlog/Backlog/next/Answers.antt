use Rattle.gr_model.proofs.Common.{arith}
use Rattle.gr_intake.proofs.Backlogs.{coming, first_piece, nothing_in}
use Rattle.gr_intake.proofs.backlog.Backlog.next.Goals as goal

pub returns-in-Some : goal.returns-in-Some
returns-in-Some g c = grind (arith, coming, first_piece, c.loop-self.invariant.pieces.read)

pub returns : goal.returns
returns g c = grind (arith, nothing_in, c.loop-self.invariant.pieces.read)
