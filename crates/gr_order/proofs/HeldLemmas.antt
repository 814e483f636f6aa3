-- What was taken is handled or held, and what is ready is held.
use Rattle.gr_model.proofs.Common.{◌≡◌, ◌≢◌, ℕ, ◌+◌, ◌-◌, ◌<◌, ◌≤◌, cond, length, refl, subst, arith, common_steps, sum_by, ◌==◌, nat_tests, slice_get_within}
use Rattle.gr_order.specs.Types.{EventId, ItemId, LARGEST_COUNT}
use Rattle.gr_model.specs.Prelude.{IsHeld, HasItem, items_of, size_of, trace_of}
use Rattle.gr_clocks.specs.Counts.{Counts, count_of, tick_at}
use Rattle.gr_clocks.specs.Tables.{item_of}
use Rattle.gr_steps.specs.Steps.{IsAtRest, IsReady}
use Rattle.gr_steps.proofs.HeldEvents.{held_at_rest}
use Rattle.gr_steps.proofs.Resting.{rest_grounded}
use Rattle.gr_order.specs.Sequences.{Sequence}
use Rattle.gr_order.specs.States.{IsOrderState}
use Rattle.gr_order.proofs.StateLemmas.{index_is, item_cases, item_there, tick_here, tick_there}
use Rattle.gr_order.proofs.SumLemmas.{group_more, item_more, items_at_most}
use Rattle.gr_order.proofs.TakenLemmas.{events_most, taken_events, trace_most}

module _ {q : Sequence} {frontier : Counts} {held : ℕ} (state : IsOrderState q frontier held) where
  abbrev traces : ItemId → ℕ
  traces i = length (trace_of q.taken i)

  abbrev counts : ItemId → ℕ
  counts i = count_of frontier i

  -- no more events of an item are handled than were taken
  pub taken_first : (i : ItemId) → counts i ≤ traces i
  taken_first i = grind (arith, common_steps, state.first (record { at = i; index = traces i }), state.sequence.lawful.event, slice_get_within)

  pub held_most : held ≤ 1099494850560
  held_most = let most = events_most q.taken state.sequence.prefixes in let rest = state.rest in omega arith

  -- where no step is left, the held events are those that are not grounded
  pub held_at : IsAtRest q.taken q.handled → IsHeld q.taken held
  held_at rest =
      let sum : sum_by (λ i. traces i - counts i) (items_of q.taken.sizes) ≡ held = omega (arith, items_at_most counts traces q.taken.sizes (λ i there. taken_first i), taken_events q.taken state.sequence.prefixes, state.counts, state.rest) in
      subst (IsHeld q.taken) sum (held_at_rest q.taken q.handled state.sequence.lawful (rest_grounded q.taken q.handled state.sequence.lawful rest) counts state.first)

  -- n events more that were taken are held
  are_held : (more : ItemId → ℕ) (n : ℕ) → ((i : ItemId) → HasItem q.taken.sizes i → more i ≤ traces i) → sum_by more (items_of q.taken.sizes) ≡ sum_by counts (items_of q.taken.sizes) + n → n ≤ held
  are_held more n within sum = omega (arith, items_at_most more traces q.taken.sizes within, taken_events q.taken state.sequence.prefixes, state.counts, state.rest)

  -- an event that is ready
  module _ (e : EventId) (ready : IsReady q.taken q.handled e) where
    is_taken : e.index < traces e.at
    is_taken = slice_get_within (trace_of q.taken e.at) e.index ready.event.0 ready.event.1

    pub ready_can_count : count_of frontier e.at ≢ LARGEST_COUNT
    ready_can_count full = grind (arith, common_steps, trace_most, item_there state e ready, index_is state e ready, is_taken)

    pub ready_is_held : 1 ≤ held
    ready_is_held = are_held (λ j. counts j + tick_at e.at j) 1 (λ j has. grind (arith, item_cases e.at j, tick_here, tick_there, index_is state e ready, is_taken, taken_first j))
        (item_more counts (λ j. counts j + tick_at e.at j) q.taken.sizes e.at (item_there state e ready) (omega (arith, tick_here e.at e.at refl)) (λ j apart. omega (arith, tick_there e.at j apart)))

  -- the next events of a group
  module _ (g : ℕ) (there : g < length q.taken.sizes) (next : (k : ℕ) → k < size_of q.taken g → counts (item_of g k) < traces (item_of g k)) where
    abbrev one_of : ItemId → ℕ
    one_of j = cond (j.group == g) 1 0

    is_next : (j : ItemId) → HasItem q.taken.sizes j → j.group ≡ g → counts j < traces j
    is_next j has here = grind (arith, common_steps)

    pub group_is_held : size_of q.taken g ≤ held
    group_is_held = are_held (λ j. counts j + one_of j) (size_of q.taken g) (λ j has. grind (arith, nat_tests, is_next j has, taken_first j))
        (group_more counts (λ j. counts j + one_of j) q.taken.sizes g there (λ k lt. grind (arith, nat_tests)) (λ j apart. grind (arith, nat_tests)))
