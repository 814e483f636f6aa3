-- The rule of an intake queue: what is sent of a work-group is the prefix of a stream.
-- Source: docs/QUEUES.md, "The intake queue".
use Rattle.std.specs.Prelude.{ℕ, List, replicate}
use Rattle.gr_route.specs.Types.{Event, Sent, MOST_GROUPS, SeatView}
use Rattle.gr_model.specs.Prelude.{IsPrefix, events_of}
use Rattle.gr_route.specs.Rule as rule

-- no group has had a seat
unfoldable pub no_sizes : List ℕ
no_sizes = replicate MOST_GROUPS 0

abbrev pub SeatsAgree : List Sent → List (SeatView Sent Event) → Type 0
SeatsAgree = rule.SeatsAgree events_of IsPrefix
