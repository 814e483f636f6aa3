use Rattle.gr_timeline.proofs.judged.Judged.of.Goals as goal

pub invariant_of-result : goal.invariant_of-result
invariant_of-result g c = (c.in_ok-sequencer.ensures.done, rw c.in_ok-sequencer.ensures.taken (λ g there. (c.in_ok-sequencer.ensures.accepted.each g there).ended))
