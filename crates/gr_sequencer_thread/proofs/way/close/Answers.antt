use Rattle.gr_model.proofs.Common.{◌∙◌, List, ap}
use Rattle.gr_route.specs.declared.work.Work.{Work}
use Rattle.gr_sequencer_thread.specs.Feeds.{work_on_way}
use Rattle.gr_sequencer_thread.proofs.WayLemmas.{way_batched}
use Rattle.gr_sequencer_thread.proofs.way.close.Goals as goal

pub returns-in_ok-push_back-clause-same : goal.returns-in_ok-push_back-clause-same
returns-in_ok-push_back-clause-same g c refused =
    let batch = c.in-Some.batch in
    let was = c.args.batches.now.items in
    (λ i. work_on_way {A = g.row.A.Denot} refused (c.in_ok-push_back.ensures.items i) (c.take_waiting.ensures.empty i))
    ∙ (way_batched refused was batch ∙ ap (λ (l : List (Work g.row.A.Denot)). work_on_way refused was l) c.in-Some.ensures.some)
