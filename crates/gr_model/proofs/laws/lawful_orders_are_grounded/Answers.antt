use Rattle.gr_model.proofs.Descent.{lawful_is_grounded}
use Rattle.gr_model.proofs.laws.lawful_orders_are_grounded.Goals as goal

pub returns : goal.returns
returns c = lawful_is_grounded
