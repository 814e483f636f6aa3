use Rattle.gr_model.proofs.Common.{◌≡◌, All, into_iter_items}
use Rattle.gr_sequencer_thread.specs.Feeds.{intakes_of}
use Rattle.gr_detector.specs.Settling.{ArePopped, IsHere, pops_of}
use Rattle.gr_detector.proofs.joins.join_intakes.Given as goal

abbrev pub invariant-loop-receipt : goal.invariant-loop-receipt
invariant-loop-receipt g l =
    (intakes_of l.inlets.items ≡ intakes_of l.fn.inlets.items) × (pops_of l.inlets.items ≡ pops_of l.fn.inlets.items)
    × All (IsHere (intakes_of l.fn.inlets.items)) (into_iter_items l.receipt-iterator)
    × (ArePopped (pops_of l.fn.inlets.items) (into_iter_items l.receipt-iterator) → ArePopped (pops_of l.fn.inlets.items) l.fn.receipts.items)
