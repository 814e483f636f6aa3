-- How many events were taken: of each item, of each group, and in all.
use Rattle.gr_model.proofs.Common.{◌≡◌, ℕ, zero, suc, ◌+◌, ◌*◌, ◌<◌, ◌≤◌, Bool, not, List, [], ◌∷◌, length, filter, map, Some, slice_get, refl, ap, ◌∙◌, arith, common_steps, sum_by, eq-eqb, ne_eqb, length-append, filter-append, sum_by-cons, sum_by-set}
use Rattle.std.specs.Int.{from_bool}
use Rattle.gr_order.specs.Types.{Event, ItemId, MOST_GROUPS, MOST_RECORDS}
use Rattle.gr_model.specs.Prelude.{is_end, items_of, ArePrefixes, Streams, is_of, list_of, size_of, trace_of}
use Rattle.gr_model.proofs.ListsOfRecords.{length-filter_le}
use Rattle.gr_lanes.specs.Takes.{CanTake, nothing_taken, with_record}
use Rattle.gr_order.specs.Sequences.{event_count}
use Rattle.gr_order.proofs.SumLemmas.{group_sum, items_sum, sum_places, total, total_more, total_none, total_same}

-- how many events a list has, ends aside
abbrev pub events_in : List Event → ℕ
events_in list = length (filter (λ x. not (is_end x)) list)

pub one_at_most : (b : Bool) → from_bool b ≤ 1
one_at_most b = grind arith

filter_one : (test : Event → Bool) (x : Event) (list : List Event) → length (filter test (x ∷ list)) ≡ from_bool (test x) + length (filter test list)
filter_one test x list = grind arith

-- an event is one of its item alone, and an end of none
of_other : (x : Event) (i : ℕ) → (i ≡ x.item → ⊥) → from_bool (is_of i x) ≡ 0
of_other x i apart = grind (arith, common_steps, ne_eqb)

of_item : (x : Event) → from_bool (is_of x.item x) ≡ from_bool (not (is_end x))
of_item x = grind (arith, common_steps, eq-eqb)

-- the events of a group are those of its items
pub group_events : (n : ℕ) (list : List Event) → ((p : ℕ) (x : Event) → slice_get list p ≡ Some x → x.item < n) → total (λ i. length (filter (is_of i) list)) 0 n ≡ events_in list
group_events n [] within = total_none (λ i. 0) 0 n (λ k ge lt. refl)
group_events n (x ∷ list) within =
    let more = total_more (λ i. length (filter (is_of i) list)) (λ i. length (filter (is_of i) (x ∷ list))) x.item (from_bool (not (is_end x))) 0 n
    (omega (arith, filter_one (is_of x.item) x list, of_item x))
    (λ i apart. omega (arith, filter_one (is_of i) x list, of_other x i apart))
    (omega arith) (omega (arith, within 0 x refl)) in
    omega (arith, group_events n list (λ p y at. within (suc p) y at), more, filter_one (λ y. not (is_end y)) x list)

lists_of_groups : (s : Streams) → ArePrefixes s → event_count s ≡ total (λ g. events_in (list_of s g)) 0 (length s.sizes)
lists_of_groups s prefixes = sum_places events_in s.lists [] ∙ ap (λ (n : ℕ). total (λ g. events_in (list_of s g)) 0 n) prefixes.count

-- so the events that were taken are those of all items
pub taken_events : (s : Streams) → ArePrefixes s → sum_by (λ i. length (trace_of s i)) (items_of s.sizes) ≡ event_count s
taken_events s prefixes =
    let groups = total_same (λ g. events_in (list_of s g)) (group_sum (λ i. length (trace_of s i)) s.sizes) 0 (length s.sizes) (λ g from there.
    group_events (size_of s g) (list_of s g) (λ p x at. ((prefixes.each g (omega arith)).good p x at).0.0)) in
    omega (arith, groups, lists_of_groups s prefixes, items_sum (λ i. length (trace_of s i)) s.sizes)

-- one record more
pub events_more : (s : Streams) (g : ℕ) (x : Event) → ArePrefixes s → CanTake s g x → event_count (with_record s g x) ≡ event_count s + from_bool (not (is_end x))
events_more s g x prefixes can = grind (arith, common_steps, filter-append, length-append, sum_by-set, filter_one)

pub no_events : (sizes : List ℕ) → event_count (nothing_taken sizes) ≡ 0
no_events [] = refl
no_events (n ∷ sizes) = omega (arith, no_events sizes, sum_by-cons events_in [] (map (λ m. []) sizes))

-- ---- how many they can be

total_most : (f : ℕ → ℕ) (a n : ℕ) → ((k : ℕ) → a ≤ k → k < a + n → f k ≤ 16777216) → total f a n ≤ n * 16777216
total_most f a zero most = omega arith
total_most f a (suc n) most = omega (arith, most a, total_most f (a + 1) n (λ k from lt. most k (omega arith) (omega arith)))

pub trace_most : (s : Streams) → ArePrefixes s → (i : ItemId) → i.group < length s.sizes → length (trace_of s i) ≤ 16777216
trace_most s prefixes i there = grind (arith, common_steps, length-filter_le)

pub events_most : (s : Streams) → ArePrefixes s → event_count s ≤ 1099494850560
events_most s prefixes =
    let most = total_most (λ g. events_in (list_of s g)) 0 (length s.sizes) (λ g from there.
    let few : length (list_of s g) ≤ MOST_RECORDS = (prefixes.each g (omega arith)).few in omega (arith, few, length-filter_le (λ x. not (is_end x)) (list_of s g))) in
    let groups : length s.sizes ≤ MOST_GROUPS = prefixes.shape.groups in omega (arith, most, groups, lists_of_groups s prefixes)
