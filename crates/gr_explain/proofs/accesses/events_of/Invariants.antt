use Rattle.gr_model.proofs.Common.{All, take}
use Rattle.gr_explain.specs.Accesses.{AreWanted}
use Rattle.gr_explain.proofs.accesses.events_of.Given as goal

abbrev pub invariant-loop-race : goal.invariant-loop-race
invariant-loop-race g l = All (AreWanted l.events.keys) (take l.race-index l.races)
