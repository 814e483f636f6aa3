use Rattle.gr_model.proofs.Common.{◌≡◌, [], length, All}
use Rattle.gr_sequencer_thread.specs.Feeds.{accesses_on_way}
use Rattle.gr_sequencer_thread.proofs.on_way.OnWay.new.Given as goal

abbrev pub invariant-loop : goal.invariant-loop
invariant-loop g l = (length l.ways.items ≡ l.counter) × All (λ x. x ≡ []) (accesses_on_way l.ways.items)
