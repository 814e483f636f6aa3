use Rattle.gr_intake.proofs.Accepted.{joined_are_streams}
use Rattle.gr_replay.proofs.laws.joined_are_streams.Goals as goal

pub returns : goal.returns
returns c = joined_are_streams
