use Rattle.gr_replay.proofs.Upgrades.{upgraded_are_one_launch, upgraded_have_one_report, upgraded_inputs_are_one_launch, upgraded_inputs_have_one_report}
use Rattle.gr_replay.proofs.laws.upgraded_are_one_launch.Goals as goal

pub returns : goal.returns
returns c = record { bytes = upgraded_are_one_launch; inputs = upgraded_inputs_are_one_launch; report = upgraded_have_one_report; inputs_report = upgraded_inputs_have_one_report }
