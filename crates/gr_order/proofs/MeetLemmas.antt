-- The next instance of a group, by the next events of its items.
use Rattle.gr_model.proofs.Common.{Bool, IsTrue, ◌↔◌, ◌≢◌, false, sym, true, true≢false, ◌≡◌, ℕ, ◌<◌, ◌≤◌, List, Some, None, Option, length, refl, ap, ◌∙◌, subst, arith, common_steps, IsSome, MatchOption, get_or_past}
use Rattle.std.specs.Bool.{then_some}
use Rattle.gr_order.specs.Types.{Event, EventId}
use Rattle.gr_model.specs.Prelude.{IsConvergent, StandsIn, is_barrier, mark_of, Mark, ArePrefixes, Streams, event_at, place_of, size_of, trace_of}
use Rattle.gr_clocks.specs.Counts.{Counts, count_of}
use Rattle.gr_clocks.specs.Tables.{item_of}
use Rattle.gr_steps.specs.Steps.{CanMeet, IsMeeting}
use Rattle.gr_steps.proofs.BarrierPlaces.{barrier_of, places_from-once, stands_before}
use Rattle.gr_steps.proofs.Orders.{previous_of}
use Rattle.gr_lanes.proofs.InstanceLemmas.{barrier_mark, some_mark}
use Rattle.gr_steps.proofs.EventRecords.{item_of_event}
use Rattle.gr_lanes.specs.Instances.{HasCome}
use Rattle.gr_order.specs.Readiness.{IsNextInstance, StandsNext}
use Rattle.gr_order.specs.States.{AreBelowFrontier, next_event}
use Rattle.gr_order.proofs.ReadyLemmas.{come_of}

module _ (s : Streams) (frontier : Counts) (g : ℕ) where
  -- the first item's next event is there, and is a barrier of that number
  pub first_there : (k : ℕ) → IsNextInstance s frontier g k → event_at s (next_event frontier (item_of g 0)) ≡ None → ⊥
  first_there k h none = grind (arith, h.each 0 h.some, barrier_mark 0 (trace_of s (item_of g 0)) k (count_of frontier (item_of g 0)))

  module _ (prefixes : ArePrefixes s) (x : Event) (at : event_at s (next_event frontier (item_of g 0)) ≡ Some x) (number index : ℕ) (numbered : place_of s is_barrier (item_of g 0) number ≡ Some index) (count : index ≡ count_of frontier (item_of g 0)) where
    place : place_of s is_barrier (item_of g 0) number ≡ Some (count_of frontier (item_of g 0))
    place = numbered ∙ ap Some count

    pub come : HasCome s g number x
    come = come_of s prefixes (next_event frontier (item_of g 0)) x at number place

    next_if : ((i : ℕ) → i < size_of s g → StandsNext s frontier g number (mark_of x) i) → IsNextInstance s frontier g number
    next_if all = let mark = some_mark (mark_of x) come.barrier in
        record { mark = mark.0; some = item_of_event s prefixes (next_event frontier (item_of g 0)) x at; each = λ i lt. subst (λ o. StandsNext s frontier g number o i) mark.1 (all i lt) }

    next_only : (k : ℕ) → IsNextInstance s frontier g k → (i : ℕ) → i < size_of s g → StandsNext s frontier g number (mark_of x) i
    next_only k h i lt = grind (arith, h.each 0 h.some, h.each i lt, barrier_mark 0 (trace_of s (item_of g 0)) number (count_of frontier (item_of g 0)) place, at, places_from-once is_barrier 0 (trace_of s (item_of g 0)) (count_of frontier (item_of g 0)) k number)

    -- so it is known whether it is
    pub next_known : (b : Bool) → IsTrue b ↔ ((i : ℕ) → i < size_of s g → StandsNext s frontier g number (mark_of x) i) → MatchOption (then_some b number) ((k : ℕ) → ¬ IsNextInstance s frontier g k) (λ k. IsNextInstance s frontier g k)
    next_known false is = λ k h. true≢false (sym (is.1 (next_only k h)))
    next_known true is = next_if (is.0 refl)

-- ---- that instance is the one that may meet

module _ (s : Streams) (order : List EventId) (frontier : Counts) (first_ones : AreBelowFrontier order frontier) (g : ℕ) where
  stands_at : (k : ℕ) (b : EventId) → IsNextInstance s frontier g k → StandsIn s b g k → b.index ≡ count_of frontier b.at
  stands_at k b h stands = grind (arith, common_steps)

  pub next_meets : (k : ℕ) → IsNextInstance s frontier g k → (a : Mark) × IsMeeting s order g k a
  next_meets k h = (
    h.mark,
    record {
      convergent = convergent;
      fresh = λ met. let index = stands_at k met.0 h met.1 in let lt = (first_ones met.0).0 met.2 in omega arith;
      least = λ l b lt c.
          let was = barrier_of s g l b c 0 h.some in
          let now = barrier_of s g k h.mark convergent 0 h.some in
          let before = stands_before s (record { at = item_of g 0; index = was.0 }) (record { at = item_of g 0; index = now.0 }) g l k was.1 now.1 refl lt in
          let index = stands_at k (record { at = item_of g 0; index = now.0 }) h now.1 in
          (record { at = item_of g 0; index = was.0 }, was.1, (first_ones (record { at = item_of g 0; index = was.0 })).1 (omega arith));
      before = λ b d stands previous. (first_ones d).1 (grind (arith, stands_at k b h stands, previous.item, previous.next));
    },
  )
    where
      convergent : IsConvergent s g k h.mark
      convergent = (h.some, λ i lt. (h.each i lt).mark)

  pub meets_next : (k : ℕ) (a : Mark) → IsMeeting s order g k a → IsNextInstance s frontier g k
  meets_next k a meeting = record { mark = a; some = meeting.convergent.0; each = λ i lt. record { place = place i lt; mark = meeting.convergent.1 i lt } }
    where
      index_of_barrier : (b : EventId) → StandsIn s b g k → b.index ≡ count_of frontier b.at
      index_of_barrier b stands = grind (arith, meeting.fresh, meeting.before b, first_ones, previous_of b (count_of frontier b.at))

      place : (i : ℕ) → i < size_of s g → place_of s is_barrier (item_of g i) k ≡ Some (count_of frontier (item_of g i))
      place i lt =
          let b = barrier_of s g k a meeting.convergent i lt in
          b.1.place ∙ ap Some (index_of_barrier (record { at = item_of g i; index = b.0 }) b.1)

  -- so it is known which instance may meet
  pub meeting_of : (o : Option ℕ) → MatchOption o ((k : ℕ) → ¬ IsNextInstance s frontier g k) (λ k. IsNextInstance s frontier g k) → MatchOption o (¬ CanMeet s order g) (λ k. (a : Mark) × IsMeeting s order g k a)
  meeting_of None none = λ can. none can.0 (meets_next can.0 can.1 can.2)
  meeting_of (Some k) next = next_meets k next

  -- where one may, it is that of the number of the first item's next event
  module _ (can : CanMeet s order g) where
    next : IsNextInstance s frontier g can.0
    next = meets_next can.0 can.1 can.2

    module _ (n : ℕ) (count : n ≡ count_of frontier (item_of g 0)) where
      pub is_numbered : (o : Option ℕ) → MatchOption o ((k : ℕ) → place_of s is_barrier (item_of g 0) k ≢ Some n) (λ k. place_of s is_barrier (item_of g 0) k ≡ Some n) → IsSome o
      is_numbered None none = absurd (none can.0 ((next.each 0 next.some).place ∙ ap Some (sym count)))
      is_numbered (Some k) _ = refl

      pub numbered_meets : (number : ℕ) → place_of s is_barrier (item_of g 0) number ≡ Some n → (a : Mark) × IsMeeting s order g number a
      numbered_meets number place = grind (arith, can, next.each 0 next.some, places_from-once is_barrier 0 (trace_of s (item_of g 0)) (count_of frontier (item_of g 0)) can.0 number)

pub no_group_meets : (s : Streams) (order : List EventId) (g : ℕ) → length s.sizes ≤ g → ¬ CanMeet s order g
no_group_meets s order g past can = grind (arith, can.2.convergent.0, get_or_past s.sizes g 0 past)
