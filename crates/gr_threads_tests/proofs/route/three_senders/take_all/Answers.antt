use Rattle.gr_model.proofs.Common.{rules}
use Rattle.gr_threads_tests.proofs.RunLemmas.{ended_next}
use Rattle.gr_threads_tests.proofs.route.three_senders.take_all.Goals as goal

pub loop-preserved : goal.loop-preserved
loop-preserved g c = (search rules, ended_next _ _ _ _ _ c.in-Some-pop.ensures.some c.note.ensures c.loop.invariant.1)
