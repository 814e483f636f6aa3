use Rattle.gr_model.proofs.Common.{ap, ◌∙◌, arith}
use Rattle.gr_route.specs.IntakeSeats.{Taker}
use Rattle.gr_threads_tests.proofs.RunLemmas.{joined_whole}
use Rattle.gr_threads_tests.proofs.route.three_senders.join_all.Goals as goal

pub returns-clause-first : goal.returns-clause-first
returns-clause-first c =
    joined_whole _ _ _ _ _ c.requires.groups.0 (ap (λ (t : Taker). t.popped) c.join_back.ensures.joined) (c.requires.ended 0 (omega arith)) c.join_back.ensures.whole

pub returns-clause-second : goal.returns-clause-second
returns-clause-second c =
    joined_whole _ _ _ _ _ c.requires.groups.1 (ap (λ (t : Taker). t.popped) c.join_back-2.ensures.joined ∙ ap (λ (t : Taker). t.popped) c.join_back.ensures.joined) (c.requires.ended 1 (omega arith)) c.join_back-2.ensures.whole

pub returns-clause-third : goal.returns-clause-third
returns-clause-third c =
    joined_whole _ _ _ _ _ c.requires.groups.2
    (ap (λ (t : Taker). t.popped) c.join_back-3.ensures.joined ∙ ap (λ (t : Taker). t.popped) c.join_back-2.ensures.joined ∙ ap (λ (t : Taker). t.popped) c.join_back.ensures.joined) (c.requires.ended 2 (omega arith)) c.join_back-3.ensures.whole
