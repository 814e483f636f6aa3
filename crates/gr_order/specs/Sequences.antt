-- What was taken of a launch's streams, and in which order its events were handled.
-- Source: docs/MODEL.md, "Steps".
use Rattle.std.specs.Prelude.{◌≡◌, ℕ, ◌<◌, ◌⊎◌, List, [], length, filter, not}
use Rattle.std.specs.List.{sum_by}
use Rattle.gr_order.specs.Types.{Event, EventId, ItemId}
use Rattle.gr_model.specs.Prelude.{is_end, Mark, Streams, ArePrefixes, size_of, IsLawful}
use Rattle.gr_model.specs.Groups as model
use Rattle.gr_lanes.specs.Takes.{nothing_taken, with_record}
use Rattle.gr_steps.specs.Steps.{Handles, Meets, CanHandle, CanMeet, IsAtRest, IsMeeting, AreGrounded}

pub record Sequence : Type 0 where
  pub taken : Streams
  pub handled : List EventId

-- what is so of every sequence: the lists are prefixes of lists that the groups may have, and the order is lawful
pub record IsSequence (q : Sequence) : Type 0 where
  pub prefixes : ArePrefixes q.taken
  pub lawful : IsLawful q.taken q.handled

-- groups of these sizes, before their first records
abbrev pub nothing : List ℕ → Sequence
nothing sizes = record { taken = nothing_taken sizes; handled = [] }

-- one record more of a group
abbrev pub taking : Sequence → ℕ → Event → Sequence
taking q g x = record { taken = with_record q.taken g x; handled = q.handled }

-- a group with this many items comes, and nothing more was taken or handled
abbrev pub with_group : Sequence → ℕ → ℕ → Sequence
with_group q g n = record { taken = model.with_group q.taken g n; handled = q.handled }

-- ---- steps

-- one event more is handled
pub record HandlesEvent (old : Sequence) (e : EventId) (new : Sequence) : Type 0 where
  pub taken : new.taken ≡ old.taken
  pub handles : Handles old.taken old.handled e new.handled

-- one instance more has met
pub record MeetsInstance (old : Sequence) (g k : ℕ) (new : Sequence) : Type 0 where
  pub taken : new.taken ≡ old.taken
  pub meets : Meets old.taken old.handled g k new.handled

-- whichever instance of the group could meet has met
abbrev pub MeetsNext : Sequence → ℕ → Sequence → Type 0
MeetsNext old g new = (k : ℕ) (a : Mark) → IsMeeting old.taken old.handled g k a → MeetsInstance old g k new

-- some event may be handled, or some instance may meet
abbrev pub CanStep : Sequence → Type 0
CanStep q = ((i : ItemId) × CanHandle q.taken q.handled i) ⊎ ((g : ℕ) × CanMeet q.taken q.handled g)

-- no step is left in a group
pub record IsGroupAtRest (q : Sequence) (g : ℕ) : Type 0 where
  pub handles : (i : ℕ) → i < size_of q.taken g → ¬ CanHandle q.taken q.handled (record { group = g; item = i })
  pub meets : ¬ CanMeet q.taken q.handled g

-- no step is left, and the handled events are the grounded ones
pub record IsDone (q : Sequence) : Type 0 where
  pub rest : IsAtRest q.taken q.handled
  pub grounded : AreGrounded q.taken q.handled

-- ---- what is counted

-- how many events were taken, without ends
abbrev pub event_count : Streams → ℕ
event_count s = sum_by (λ list. length (filter (λ x. not (is_end x)) list)) s.lists
