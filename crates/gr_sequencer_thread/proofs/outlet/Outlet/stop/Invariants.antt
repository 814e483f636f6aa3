use Rattle.gr_model.proofs.Common.{◌≡◌}
use Rattle.gr_sequencer_thread.proofs.outlet.Outlet.stop.Given as goal

abbrev pub invariant-loop : goal.invariant-loop
invariant-loop g l = (l.self-inside.seat ≡ l.fn.self) × (l.self-inside.queue ≡ l.initial.self-inside.queue)
