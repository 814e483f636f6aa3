use Rattle.gr_intake.proofs.Comings.{nothing_is_read}
use Rattle.gr_intake.proofs.intake.Intake.new.Goals as goal

pub returns-clause-intake : goal.returns-clause-intake
returns-clause-intake g c = (nothing_is_read c.in_ok-without_groups.field-0 c.new.result c.new-2.result.items c.in_ok-without_groups.ensures c.new.ensures c.new-2.ensures.items, tt)
