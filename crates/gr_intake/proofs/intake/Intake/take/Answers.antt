use Rattle.gr_intake.proofs.Comings.{moves_on}
use Rattle.gr_intake.proofs.intake.Intake.take.Goals as goal

pub loop-rest-preserved : goal.loop-rest-preserved
loop-rest-preserved g c =
    moves_on c.args.self.now c.loop-rest.self c.take_part.new.self c.args.bytes.now c.loop-rest.rest.now c.in_ok-rest.rest.now c.loop-rest.invariant c.in_ok-rest.ensures.moves
