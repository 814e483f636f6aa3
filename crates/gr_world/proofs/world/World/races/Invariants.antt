use Rattle.gr_model.proofs.Common.{take}
use Rattle.gr_model.specs.Prelude.{Lists, WordBelow}
use Rattle.gr_world.specs.Worlds.{IsHitAtWork}
use Rattle.gr_world.proofs.world.World.races.Given as goal

abbrev pub invariant-loop-worker : goal.invariant-loop-worker
invariant-loop-worker g l = Lists WordBelow (IsHitAtWork (take l.worker-index l.worker-items)) l.races.items
