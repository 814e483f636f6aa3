-- An order stays one where a record is taken, and where an event is handled.
use Rattle.gr_model.proofs.Common.{◌≡◌, ◌⊎◌, ℕ, ◌+◌, ◌<◌, List, [], ◌∷◌, ◌++◌, length, get_or, Some, refl, sym, ap, ◌∙◌, subst, inl, inr, arith, common_steps, not, length_push, sum_by-le}
use Rattle.std.specs.Int.{from_bool}
use Rattle.gr_model.specs.Prelude.{is_end, ArePrefixes, Streams, IsIn, IsLawful, HasItem, items_of}
use Rattle.gr_order.specs.Types.{Event, EventId, ItemId}
use Rattle.gr_steps.proofs.StepGrowth.{lawful_grows}
use Rattle.gr_steps.proofs.Handling.{lawful_handle}
use Rattle.gr_steps.proofs.NextEvents.{ready_is_next}
use Rattle.gr_steps.proofs.Orders.{at_behind, lawful_empty, split_last}
use Rattle.gr_steps.specs.Steps.{IsReady}
use Rattle.gr_steps.proofs.EventRecords.{group_of_event, item_of_event}
use Rattle.gr_model.proofs.Places.{slice_get-append}
use Rattle.gr_model.proofs.Cuts.{same_event}
use Rattle.gr_clocks.specs.Counts.{Counts, IsTick, IsZero, count_of, tick_at}
use Rattle.gr_clocks.specs.Tables.{IsBeyond}
use Rattle.gr_clocks.proofs.RowLemmas.{same_items, same_item_self}
use Rattle.gr_lanes.specs.Takes.{CanTake, nothing_taken, with_record}
use Rattle.gr_lanes.proofs.Growth.{record_grows}
use Rattle.gr_order.specs.Sequences.{Sequence, event_count}
use Rattle.gr_order.specs.States.{AreBelowFrontier, IsOrderState, counted_in}
use Rattle.gr_order.proofs.SumLemmas.{item_more}
use Rattle.gr_order.proofs.TakenLemmas.{events_more, no_events, one_at_most}

-- nothing was taken
pub new_state : (sizes : List ℕ) (taken : Streams) → taken ≡ nothing_taken sizes → ArePrefixes taken → (frontier : Counts) → IsZero sizes frontier → (items : List EventId) → items ≡ [] → IsOrderState (record { taken = taken; handled = items }) frontier 0
new_state sizes taken is prefixes frontier clock items none =
    let events : event_count taken ≡ 0 = ap (λ (s : Streams). event_count s) is ∙ no_events sizes in
    let size : length items ≡ 0 = ap (λ (l : List EventId). length l) none in record {
      sequence = record { prefixes = prefixes; lawful = subst (IsLawful taken) (sym none) (lawful_empty taken) };
      shape = clock.shape ∙ ap (λ (s : Streams). s.sizes) (sym is);
      first = λ e. (λ there. absurd (let at = rw none at there.1 in cc), λ lt. absurd (omega (arith, clock.zero e.at)));
      counts = omega (arith, size, sum_by-le (λ i. count_of frontier i) 0 (items_of taken.sizes) (λ k d lt. omega (arith, clock.zero (get_or (items_of taken.sizes) k d))));
      rest = omega arith;
    }

-- a record is taken
module _ {q : Sequence} {frontier : Counts} {held : ℕ} (state : IsOrderState q frontier held) where
  pub took : (g : ℕ) (x : Event) (new : Streams) → ArePrefixes new → CanTake q.taken g x → new ≡ with_record q.taken g x → (more : ℕ) → more ≡ held + from_bool (not (is_end x)) → IsOrderState (record { taken = new; handled = q.handled }) frontier more
  took g x new prefixes can is more counts =
      let events : event_count new ≡ event_count q.taken + from_bool (not (is_end x)) = ap (λ (s : Streams). event_count s) is ∙ events_more q.taken g x state.sequence.prefixes can in
      let rest = state.rest in
      let one = one_at_most (not (is_end x)) in record {
        sequence = record {
          prefixes = prefixes;
          lawful = subst (λ (s : Streams). IsLawful s q.handled) (sym is) (lawful_grows q.taken (with_record q.taken g x) (record_grows q.taken g x state.sequence.prefixes can) q.handled state.sequence.lawful);
        };
        shape = state.shape ∙ sym (ap (λ (s : Streams). s.sizes) is);
        first = state.first;
        counts = ap (λ (s : Streams). counted_in frontier s.sizes) is ∙ state.counts;
        rest = omega arith;
      }

-- ---- an event is handled

pub tick_here : (i j : ItemId) → i ≡ j → tick_at i j ≡ 1
tick_here i j same = grind (arith, same_item_self i, same)

pub tick_there : (i j : ItemId) → (i ≡ j → ⊥) → tick_at i j ≡ 0
tick_there i j apart = grind (arith, same_items i j)

in_more : (order : List EventId) (e d : EventId) → IsIn (order ++ e ∷ []) d → IsIn order d ⊎ (d ≡ e)
in_more order e d (p, at) = grind (arith, common_steps, split_last)

more_in : (order : List EventId) (e d : EventId) → IsIn order d ⊎ (d ≡ e) → IsIn (order ++ e ∷ []) d
more_in order e d (inl (p, at)) = (p, slice_get-append order (e ∷ []) p d at)
more_in order e d (inr same) = (length order + 0, at_behind order (e ∷ []) 0 d (ap Some (sym same)))

pub item_cases : (i j : ItemId) → (i ≡ j) ⊎ (i ≡ j → ⊥)
item_cases i j = grind (arith, common_steps, same_items, same_item_self)

-- what a clock counts after a tick
module _ {old : Counts} {i : ItemId} {new : Counts} (tick : IsTick old i new) where
  pub tick_more : count_of new i ≡ count_of old i + 1
  tick_more = omega (arith, tick.counts i, tick_here i i refl)

  pub tick_stays : (j : ItemId) → (i ≡ j → ⊥) → count_of new j ≡ count_of old j
  tick_stays j apart = omega (arith, tick.counts j, tick_there i j apart)

-- an item is one of the first n of a group, or beyond them
pub within_or_beyond : (g n : ℕ) (j : ItemId) → ((j.group ≡ g) × (j.item < n)) ⊎ IsBeyond g n j
within_or_beyond g n j = grind arith

module _ {q : Sequence} {frontier : Counts} {held : ℕ} (state : IsOrderState q frontier held) (e : EventId) (ready : IsReady q.taken q.handled e) where
  abbrev counts : ItemId → ℕ
  counts i = count_of frontier i

  pub index_is : e.index ≡ count_of frontier e.at
  index_is = ready_is_next q.taken q.handled state.sequence.lawful counts state.first e ready

  first_more : (new : Counts) → IsTick frontier e.at new → AreBelowFrontier (q.handled ++ e ∷ []) new
  first_more new tick d = grind (arith, item_cases e.at d.at, tick_more tick, tick_stays tick d.at, index_is, in_more q.handled e d, more_in q.handled e d, state.first d, same_event d e)

  pub item_there : HasItem q.taken.sizes e.at
  item_there = (group_of_event q.taken state.sequence.prefixes e ready.event.0 ready.event.1, item_of_event q.taken state.sequence.prefixes e ready.event.0 ready.event.1)

  pub after_handle : (new : Counts) (items : List EventId) (less : ℕ) → IsTick frontier e.at new → items ≡ q.handled ++ e ∷ [] → less + 1 ≡ held → IsOrderState (record { taken = q.taken; handled = items }) new less
  after_handle new items less tick is one =
      let size : length items ≡ length q.handled + 1 = ap (λ (l : List EventId). length l) is ∙ length_push q.handled e in
      let more = item_more counts (λ j. count_of new j) q.taken.sizes e.at item_there (tick_more tick) (tick_stays tick) in record {
        sequence = record { prefixes = state.sequence.prefixes; lawful = subst (IsLawful q.taken) (sym is) (lawful_handle q.taken q.handled state.sequence.lawful e ready) };
        shape = tick.shape ∙ state.shape;
        first = subst (λ l. AreBelowFrontier l new) (sym is) (first_more new tick);
        counts = omega (arith, more, state.counts);
        rest = omega (arith, state.rest);
      }
