use Rattle.gr_model.proofs.Common.{◌≡◌, ◌≢◌, Some, ap, arith, cond, ◌∙◌}
use Rattle.gr_model.specs.declared.event.EventId.{EventId}
use Rattle.gr_clocks.specs.ItemClocks.{ReleaseClock}
use Rattle.gr_sequencer.specs.Known.{Snapshots, same_event, snapshot_at}
use Rattle.gr_sequencer.proofs.known.Known.keep.Goals as goal

-- where one event has another entry, the others keep theirs
kept_there : (old new : Snapshots) (e : EventId) (entry : ReleaseClock) → ((r : EventId) → snapshot_at new r ≡ cond (same_event e r) (Some entry) (snapshot_at old r)) → (r : EventId) → r ≢ e → snapshot_at new r ≡ snapshot_at old r
kept_there old new e entry update r other = grind arith

pub returns-in_ok-insert-in-Some-Some-clause-others : goal.returns-in_ok-insert-in-Some-Some-clause-others
returns-in_ok-insert-in-Some-Some-clause-others g c r other =
    kept_there c.self.inside.snapshots.entries c.insert.new.self.entries c.args.event c.new-snapshot.result c.in_ok-insert-in-Some-Some.ensures.updates.0 r other ∙ ap (λ k. snapshot_at k.snapshots r) c.self.view_is
