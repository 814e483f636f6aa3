-- Which records' events can be handled as soon as they are taken.
-- Source: docs/MODEL.md, "Steps".
use Rattle.std.specs.Prelude.{◌≡◌, ◌≢◌, ℕ, []}
use Rattle.gr_order.specs.Types.{Event, EventId}
use Rattle.gr_model.specs.Prelude.{IsIn, IsEvent, list_of}
use Rattle.gr_lanes.specs.Takes.{CanTake, IsMereAccess, next_of}
use Rattle.gr_order.specs.Sequences.{Sequence}

-- a record of a group may be taken, is not its first, and is a mere access; and all events of its item were handled. So its event can be
-- handled at once
pub record GoesAtOnce (q : Sequence) (g : ℕ) (x : Event) : Type 0 where
  pub can : CanTake q.taken g x
  pub access : IsMereAccess x
  pub begun : list_of q.taken g ≢ []
  pub first : (d : EventId) → d.at ≡ (next_of q.taken g x).at → IsEvent q.taken d → IsIn q.handled d
