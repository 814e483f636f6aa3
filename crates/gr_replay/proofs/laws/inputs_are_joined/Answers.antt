use Rattle.gr_replay.proofs.JoinedInputs.{inputs_are_joined, joined_report_is_equal, joined_report_is_same}
use Rattle.gr_replay.proofs.Parted.{bytes_are_inputs}
use Rattle.gr_replay.proofs.laws.inputs_are_joined.Goals as goal

pub returns : goal.returns
returns c = record { launch = inputs_are_joined; bytes = bytes_are_inputs; report = joined_report_is_same; equal = joined_report_is_equal }
