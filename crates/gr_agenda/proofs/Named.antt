-- An event that is held up is the next of its item.
use Rattle.gr_model.proofs.Common.{Contains, true, ◌≡◌, ◌<◌, List, Some, None, ap, ◌∙◌, arith, All, IsSomeAnd, MatchOption, Option, All-contains}
use Rattle.gr_agenda.specs.Types.{Event, EventId, ItemId, Name}
use Rattle.gr_model.specs.Prelude.{is_barrier, names_at, names_of, Streams, event_at, size_of}
use Rattle.gr_steps.specs.Steps.{CanMeet}
use Rattle.gr_order.proofs.MeetLemmas.{meets_next}
use Rattle.gr_agenda.proofs.KeptLemmas.{passes_there}
use Rattle.gr_model.proofs.Cuts.{same_event}
use Rattle.gr_clocks.specs.Counts.{Counts, count_of}
use Rattle.gr_steps.proofs.Orders.{previous_of}
use Rattle.gr_order.specs.States.{AreBelowFrontier}
use Rattle.gr_agenda.specs.Kept.{IsHeldUp, IsReleaseHandled}

module _ {s : Streams} {handled : List EventId} (frontier : Counts) (first : AreBelowFrontier handled frontier) {d : EventId} {n : Name} (held : IsHeldUp s handled d n) where
  index_is : d.index ≡ count_of frontier d.at
  index_is = grind (arith, held.fresh, held.previous, first, previous_of d (count_of frontier d.at))

  module _ (i : ItemId) (item : d.at ≡ i) where
    next_is : d ≡ record { at = i; index = count_of frontier i }
    next_is = grind (arith, index_is, same_event d (record { at = i; index = count_of frontier i }))

    module _ (x : Event) (at : event_at s (record { at = i; index = count_of frontier i }) ≡ Some x) where
      names_are : names_at s d ≡ x.names
      names_are = ap (names_at s) next_is ∙ ap names_of at

      pub next_named : Contains x.names n
      next_named = grind (arith, names_are, held.named)

      -- and each of its names holds it up whose release was not handled
      pub next_held : (m : Name) → Contains x.names m → ¬ IsReleaseHandled s handled m → IsHeldUp s handled d m
      next_held m named free = grind (arith, names_are, held.fresh, held.previous)

      -- so one of them does, if one is found whose release was not handled
      pub next_held_by : (o : Option Name) → MatchOption o (All (IsReleaseHandled s handled) x.names)
          (λ m. Contains x.names m × ¬ IsReleaseHandled s handled m) → IsSomeAnd o (IsHeldUp s handled d)
      next_held_by None all = absurd (held.free (All-contains (IsReleaseHandled s handled) x.names n all next_named))
      next_held_by (Some m) free = next_held m free.0 free.1

    pub next_there : event_at s (record { at = i; index = count_of frontier i }) ≡ None → ⊥
    next_there none = grind (arith, next_is, held.named)

-- where an instance of a group may meet, the next event of each of its items is a barrier
module _ (s : Streams) (handled : List EventId) (frontier : Counts) (first : AreBelowFrontier handled frontier) (i : ItemId)
    (can : CanMeet s handled i.group) (lt : i.item < size_of s i.group) where
  pub barrier_next : (x : Event) × (event_at s (record { at = i; index = count_of frontier i }) ≡ Some x) × (is_barrier x ≡ true)
  barrier_next = grind (arith, meets_next s handled frontier first i.group can.0 can.1 can.2, passes_there s is_barrier (record { at = i; index = count_of frontier i }) can.0)
