use Rattle.gr_replay.proofs.OneLaunch.{bytes_are_one_launch, bytes_have_one_report, inputs_are_one_launch, inputs_have_one_report}
use Rattle.gr_replay.proofs.laws.one_launch_is_read.Goals as goal

pub returns : goal.returns
returns c = record { bytes = bytes_are_one_launch; inputs = inputs_are_one_launch; report = bytes_have_one_report; inputs_report = inputs_have_one_report }
