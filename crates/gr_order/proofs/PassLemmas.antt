-- An order stays one where the next events of a group's items are handled, as an instance meets.
use Rattle.gr_model.proofs.Common.{◌≡◌, ℕ, ◌+◌, ◌<◌, ◌≤◌, List, ◌++◌, ◌∷◌, [], append_assoc, length, Some, slice_get, refl, sym, ap, ◌∙◌, subst, inl, inr, arith, common_steps, cases_eq, length-append, get_or-map-range_with_len, length-map-range_with_len, map-range_with_len_more, gets, get_or_from_slice_get, slice_get_within}
use Rattle.gr_order.specs.Types.{EventId, ItemId, LARGEST_COUNT}
use Rattle.gr_model.specs.Prelude.{StandsIn, IsIn, IsLawful, size_of, trace_of}
use Rattle.gr_model.proofs.Places.{slice_get-append}
use Rattle.gr_model.proofs.Cuts.{same_event}
use Rattle.gr_clocks.specs.Counts.{Counts, IsTick, count_of}
use Rattle.gr_clocks.specs.Tables.{item_of}
use Rattle.gr_steps.specs.Steps.{AreBarriers, CanMeet}
use Rattle.gr_steps.proofs.Meeting.{lawful_meet}
use Rattle.gr_steps.proofs.Orders.{at_behind, split_last}
use Rattle.gr_order.specs.Readiness.{IsNextInstance}
use Rattle.gr_order.specs.Sequences.{MeetsInstance, Sequence}
use Rattle.gr_order.specs.States.{AreBelowFrontier, IsOrderState, TicksItems, next_event, next_events}
use Rattle.gr_order.proofs.DecidedLemmas.{size_there}
use Rattle.gr_order.proofs.HeldLemmas.{group_is_held}
use Rattle.gr_order.proofs.MeetLemmas.{meets_next}
use Rattle.gr_lanes.proofs.InstanceLemmas.{barrier_mark}
use Rattle.gr_order.proofs.StateLemmas.{tick_more, tick_stays, within_or_beyond}
use Rattle.gr_order.proofs.SumLemmas.{group_more}
use Rattle.gr_order.proofs.TakenLemmas.{trace_most}

-- ---- the loops

pub one_event_more : (frontier : Counts) (g n index : ℕ) → index ≡ count_of frontier (item_of g n) → (before : List EventId) → (before ++ next_events frontier g n) ++ (record { at = item_of g n; index = index } ∷ []) ≡ before ++ next_events frontier g (n + 1)
one_event_more frontier g n index is before = grind (arith, map-range_with_len_more (λ (k : ℕ). next_event frontier (item_of g k)) 0 n n, append_assoc before (next_events frontier g n))

module _ (old now : Counts) (g n : ℕ) (ticks : TicksItems old g n now) where
  pub item_waits : count_of now (item_of g n) ≡ count_of old (item_of g n)
  item_waits = ticks.others (item_of g n) (inr (omega arith))

  pub one_tick_more : (new : Counts) → IsTick now (item_of g n) new → TicksItems old g (n + 1) new
  one_tick_more new tick = record {
    shape = tick.shape ∙ ticks.shape;
    items = λ k lt. grind (arith, cases_eq k n, tick_more tick, tick_stays tick (item_of g k), item_waits, ticks.items k);
    others = λ j beyond. grind (arith, tick_stays tick j, ticks.others j);
  }

-- ---- what is among the next events

module _ (frontier : Counts) (g n : ℕ) where
  pub next_count : length (next_events frontier g n) ≡ n
  next_count = length-map-range_with_len (λ k. next_event frontier (item_of g k)) 0 n

  next_is : (i : ℕ) (b : EventId) → slice_get (next_events frontier g n) i ≡ Some b → (i < n) × (b ≡ next_event frontier (item_of g i))
  next_is i b at = grind (arith, next_count, slice_get_within (next_events frontier g n) i b at, get_or_from_slice_get (next_events frontier g n) i b b at, get_or-map-range_with_len (λ k. next_event frontier (item_of g k)) 0 n i i b)

  next_at : (i : ℕ) → i < n → slice_get (next_events frontier g n) i ≡ Some (next_event frontier (item_of g i))
  next_at i lt = grind (arith, gets, next_count, next_is i)

  -- ---- the handled events and the clock after them

  module _ (order : List EventId) (first : AreBelowFrontier order frontier) (new : Counts) (ticks : TicksItems frontier g n new) where
    count_here : (j : ItemId) → j.group ≡ g → j.item < n → count_of new j ≡ count_of frontier j + 1
    count_here j here lt = grind (arith, common_steps)

    grows : (j : ItemId) → count_of frontier j ≤ count_of new j
    grows j = grind (arith, within_or_beyond g n j, count_here j, ticks.others j)

    counted : (e : EventId) → IsIn (order ++ next_events frontier g n) e → e.index < count_of new e.at
    counted e (p, at) = grind (arith, split_last, grows, next_is, ticks.items)

    was_there : (e : EventId) → e.index < count_of frontier e.at → IsIn (order ++ next_events frontier g n) e
    was_there e lt = grind (arith, first e, slice_get-append)

    is_next : (e : EventId) → e.at.group ≡ g → e.at.item < n → e.index ≡ count_of frontier e.at → IsIn (order ++ next_events frontier g n) e
    is_next e here lt index =
        let item : item_of g e.at.item ≡ e.at = λ d. record { group = sym here d; item = e.at.item } in
        let same : next_event frontier (item_of g e.at.item) ≡ e = same_event (next_event frontier (item_of g e.at.item)) e item (ap (count_of frontier) item ∙ sym index) in
        (length order + e.at.item, at_behind order (next_events frontier g n) e.at.item e (next_at e.at.item lt ∙ ap Some same))

    found : (e : EventId) → e.index < count_of new e.at → IsIn (order ++ next_events frontier g n) e
    found e lt = grind (arith, common_steps, count_here, was_there, is_next, within_or_beyond)

    pub first_behind : AreBelowFrontier (order ++ next_events frontier g n) new
    first_behind e = (counted e, found e)

-- ---- an instance meets

module _ {q : Sequence} {frontier : Counts} {held : ℕ} (state : IsOrderState q frontier held) (g : ℕ) (can : CanMeet q.taken q.handled g) where
  next : IsNextInstance q.taken frontier g can.0
  next = meets_next q.taken q.handled frontier state.first g can.0 can.1 can.2

  pub group_there : g < length q.taken.sizes
  group_there = size_there q.taken g next.some

  pub below_trace : (i : ℕ) → i < size_of q.taken g → count_of frontier (item_of g i) < length (trace_of q.taken (item_of g i))
  below_trace i lt = grind (arith, common_steps, barrier_mark, next, slice_get_within)

  pub below_largest : (i : ℕ) → i < size_of q.taken g → count_of frontier (item_of g i) < LARGEST_COUNT
  below_largest i lt = omega (arith, below_trace i lt, trace_most q.taken state.sequence.prefixes (item_of g i) group_there)

  pub barriers_are_held : size_of q.taken g ≤ held
  barriers_are_held = group_is_held state g group_there below_trace

  -- the next events of the group are handled, and counted
  module _ (n : ℕ) (size : n ≡ size_of q.taken g) (new : Counts) (ticks : TicksItems frontier g n new) (items : List EventId) (is : items ≡ q.handled ++ next_events frontier g n) where
    are_barriers : AreBarriers q.taken g can.0 (next_events frontier g n)
    are_barriers = record {
      count = next_count frontier g n ∙ size;
      each = λ i b at.
          let here = next_is frontier g n i b at in
          let lt : i < size_of q.taken g = omega (arith, here.0, size) in
          subst (λ (x : EventId). (x.at.item ≡ i) × StandsIn q.taken x g can.0) (sym here.1) (refl, record { group = refl; item = lt; place = (next.each i lt).place });
    }

    pub passes : MeetsInstance q g can.0 (record { taken = q.taken; handled = items })
    passes = record { taken = refl; meets = record { mark = can.1; meeting = can.2; barriers = next_events frontier g n; are = are_barriers; order = is } }

    pub after_pass : (less : ℕ) → less + n ≡ held → IsOrderState (record { taken = q.taken; handled = items }) new less
    after_pass less rest =
        let length_is : length items ≡ length q.handled + n = ap (λ (l : List EventId). length l) is ∙ (length-append q.handled (next_events frontier g n) ∙ ap (λ m. length q.handled + m) (next_count frontier g n)) in
        let more = group_more (λ j. count_of frontier j) (λ j. count_of new j) q.taken.sizes g group_there (λ k lt. ticks.items k (omega (arith, lt, size))) (λ j apart. ticks.others j (inl apart)) in record {
          sequence = record {
            prefixes = state.sequence.prefixes;
            lawful = subst (IsLawful q.taken) (sym is) (lawful_meet q.taken state.sequence.prefixes q.handled state.sequence.lawful g can.0 can.1 can.2 (next_events frontier g n) are_barriers);
          };
          shape = ticks.shape ∙ state.shape;
          first = subst (λ (l : List EventId). AreBelowFrontier l new) (sym is) (first_behind frontier g n q.handled state.first new ticks);
          counts = omega (arith, more, state.counts);
          rest = omega (arith, state.rest);
        }
