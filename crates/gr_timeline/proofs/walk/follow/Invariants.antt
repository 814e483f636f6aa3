use Rattle.gr_model.proofs.Common.{IfSome}
use Rattle.gr_timeline.specs.Chains.{IsChainTo}
use Rattle.gr_timeline.specs.Waiting.{IsHeldEvent}
use Rattle.gr_timeline.specs.Walks.{AreVisited}
use Rattle.gr_timeline.proofs.WalkLemmas.{steps_left}
use Rattle.gr_timeline.proofs.walk.follow.Given as goal

abbrev pub invariant-loop-next : goal.invariant-loop-next
invariant-loop-next g l = IsChainTo l.judged l.fn.event l.links.items l.next × IfSome l.next (IsHeldEvent l.judged) × AreVisited l.judged l.links.items l.visited

abbrev pub decreases-loop-next : goal.decreases-loop-next
decreases-loop-next g l = steps_left l.visited l.judged.sizes l.next
