use Rattle.gr_sequencer.proofs.KnownGrowth.{known_with_group}
use Rattle.gr_sequencer.proofs.sequencer.Sequencer.with_group.Goals as goal

pub invariant_of-result : goal.invariant_of-result
invariant_of-result g c =
    let sequence = c.order-order.ensures.sequence in
    rw c.in_ok-agenda.ensures
    (known_with_group _ _ sequence.prefixes sequence.lawful _ _ (rw (← c.self.view_is) at c.requires) c.self.inside.known c.in_ok-known.known c.self.invariant c.in_ok-known.ensures.clocks c.in_ok-known.ensures.snapshots)
