-- What a sequencer gives for a step.
-- Source: docs/MODEL.md, "Steps".
use Rattle.std.specs.Prelude.{◌≡◌, ℕ}
use Rattle.gr_sequencer.specs.Types.{ItemId, Handled, One, Meet}
use Rattle.gr_order.specs.Sequences.{Sequence, HandlesEvent, MeetsInstance}
use Rattle.gr_closure.specs.Accesses.{IsAccessOf}

-- the step leads from old to new: an event was handled and its access is given, or an instance has met
abbrev pub IsStep : {Z : Type 0} → Sequence → Sequence → Handled Z → Type 0
IsStep old new (One e access) = HandlesEvent old e new × IsAccessOf new.taken e access
IsStep old new (Meet g k) = MeetsInstance old g k new

-- the step is of this item, or of this group
abbrev pub IsOfItem : {Z : Type 0} → ItemId → Handled Z → Type 0
IsOfItem i (One e access) = e.at ≡ i
IsOfItem i (Meet g k) = ⊥

abbrev pub IsOfGroup : {Z : Type 0} → ℕ → Handled Z → Type 0
IsOfGroup g (One e access) = ⊥
IsOfGroup g (Meet h k) = h ≡ g
