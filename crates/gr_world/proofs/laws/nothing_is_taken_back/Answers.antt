use Rattle.gr_world.proofs.ReceivedHits.{received_hits_stay}
use Rattle.gr_world.proofs.laws.nothing_is_taken_back.Goals as goal

pub returns : goal.returns
returns c = received_hits_stay
