use Rattle.gr_replay.proofs.detect.detect.Goals as goal

pub returns : goal.returns
returns g c = rw (← c.in_ok-sequencer.ensures.taken) c.report_of.ensures
