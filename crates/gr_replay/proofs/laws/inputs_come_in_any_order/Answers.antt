use Rattle.gr_replay.proofs.AnyOrder.{inputs_in_any_order, report_in_any_order}
use Rattle.gr_replay.proofs.laws.inputs_come_in_any_order.Goals as goal

pub returns : goal.returns
returns c = record { launch = inputs_in_any_order; report = report_in_any_order }
