use Rattle.gr_sequencer.proofs.known.Known.meet.Goals as goal
use Rattle.gr_sequencer.proofs.known.Known.meet.Goals.{in-Ok, in-Err}

pub returns-clause-meets : goal.returns-clause-meets
returns-clause-meets g c =
    elim c.match-meet_within.branch [
      | in-Ok v ↦
          rw v.result-is (λ a convergent.
          let flags = c.flags_of-global.ensures a convergent in
          let met = rw (v.in-Ok.is, flags.0, flags.1) at c.meet_within.ensures.ok in
          rw (← c.self.view_is) met)
      | in-Err v ↦ rw v.result-is tt
    ]
