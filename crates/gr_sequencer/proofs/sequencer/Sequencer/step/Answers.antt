use Rattle.gr_model.proofs.Common.{inl, inr, refl}
use Rattle.gr_order.specs.Sequences.{CanStep, Sequence}
use Rattle.gr_sequencer.specs.Answers.{IsStep}
use Rattle.gr_sequencer.specs.Types.{Handled, Meet, One}
use Rattle.gr_sequencer.proofs.sequencer.Sequencer.step.Goals as goal
use Rattle.gr_sequencer.proofs.sequencer.Sequencer.step.Goals.{in-Some-Group+in_ok-handled-in-Some-Group, in-Some-Item+in_ok-handled-in-Some-Item}

-- a step that was made could be
step_could : {Z : Type 0} (old new : Sequence) (h : Handled Z) → IsStep old new h → CanStep old
step_could old new (One e access) step = inl (e.at, (e, refl, step.0.handles.ready))
step_could old new (Meet g k) step = inr (g, (k, step.meets.mark, step.meets.meeting))

pub returns-clause-none : goal.returns-clause-none
returns-clause-none g c =
    rw (← c.self.view_is, ← c.ready.ensures.unchanged) (elim c.match-this.branch [
      | in-Some-Item+in_ok-handled-in-Some-Item w ↦ step_could _ _ w.in_ok-handled-in-Some-Item.handled w.in_ok-handled-in-Some-Item.ensures.step
      | in-Some-Group+in_ok-handled-in-Some-Group w ↦ step_could _ _ w.in_ok-handled-in-Some-Group.handled w.in_ok-handled-in-Some-Group.ensures.step
    ])

pub returns-clause-sequence : goal.returns-clause-sequence
returns-clause-sequence g c =
    elim c.match-this.branch [
      | in-Some-Item+in_ok-handled-in-Some-Item w ↦ rw w.self-is w.handle_event.ensures.sequence
      | in-Some-Group+in_ok-handled-in-Some-Group w ↦ rw w.self-is w.meet_next.ensures.sequence
    ]
