use Rattle.gr_model.proofs.Common.{◌≡◌, ◌++◌}
use Rattle.gr_route.specs.Batches.{all_of}
use Rattle.gr_sequencer_thread.specs.Feeds.{left_of}
use Rattle.gr_sequencer_thread.proofs.backlog.Backlog.give_back.Given as goal

abbrev pub invariant-loop : goal.invariant-loop
invariant-loop g l =
    record { group = l.self-inside.group; records = left_of l.self-inside.batch l.self-inside.taken ++ all_of l.self-inside.later.items } ≡ l.fn.self
