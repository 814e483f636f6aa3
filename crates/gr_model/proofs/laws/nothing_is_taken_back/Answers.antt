use Rattle.gr_model.proofs.RaceGrowth.{races_stay}
use Rattle.gr_model.proofs.laws.nothing_is_taken_back.Goals as goal

pub returns : goal.returns
returns c s t order w grows lawful racy = races_stay s t grows w order lawful racy
