use Rattle.gr_clocks.proofs.RowLemmas.{more_are_each}
use Rattle.gr_clocks.proofs.group.Group.sharing.Goals as goal

pub loop-item-preserved : goal.loop-item-preserved
loop-item-preserved g c =
    let shared = c.in_ok-sharing.ensures in
    more_are_each c.loop-item.invariant c.in_ok-push.ensures.items (shared.counts, shared.owner)
