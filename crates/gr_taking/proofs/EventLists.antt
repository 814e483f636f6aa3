-- A lawful order has no more events than the lists have.
use Rattle.gr_model.proofs.Common.{[], ◌≡◌, ℕ, zero, suc, ◌<◌, ◌≤◌, true, false, List, ◌∷◌, Contains, get_or, length, map, ap, ◌∙◌, arith, range_with_len, get_or-map, length-map, Contains-append_left, Contains-append_right, get_or-range_with_len, length-range_with_len, length-le_from_is_member, slice_get-get_or, slice_get_within}
use Rattle.std.specs.Set.{is_member}
use Rattle.std.specs.List.{flat_map}
use Rattle.std.proofs.lemmas.List.Concat.{flat_map-cons, length-flat_map}
use Rattle.std.proofs.lemmas.Map.Keys.{IsDistinct-from_apart}
use Rattle.std.proofs.lemmas.Map.Views.{Contains-from_any, list_any-from_Contains}
use Rattle.gr_model.specs.declared.event.EventId.{EventId}
use Rattle.gr_model.specs.contracts.event.EventIdEq.TheImpl.Laws as equal
use Rattle.gr_model.specs.Prelude.{IsLawful, items_of, ArePrefixes, IsEvent, Streams, size_of, trace_of}
use Rattle.gr_steps.proofs.EventRecords.{group_of_event, item_of_event}
use Rattle.gr_order.specs.Sequences.{event_count}
use Rattle.gr_order.proofs.TakenLemmas.{taken_events}
use Rattle.gr_sequencer.specs.Known.{same_event}

-- a list of numbers has each of them, and its image has their images
range_has : {X : Type 0} (f : ℕ → X) (n k : ℕ) → k < n → Contains (map f (range_with_len 0 n)) (f k)
range_has f n k below = (k, grind (arith, length-map, length-range_with_len), get_or-map f (range_with_len 0 n) k 0 (f k) (omega (arith, length-range_with_len 0 n)) ∙ ap f (omega (arith, get_or-range_with_len 0 n k 0 below)))

-- joined lists have what one of them has
joined_have : {X Y : Type 0} (f : X → List Y) (xs : List X) (x : X) (y : Y) → Contains xs x → Contains (f x) y → Contains (flat_map f xs) y
joined_have f [] x y h has = absurd (omega (arith, h.1))
joined_have f (z ∷ xs) x y (zero, below, same) has = rw flat_map-cons (Contains-append_left (f z) (flat_map f xs) y (rw same has))
joined_have f (z ∷ xs) x y (suc k, below, same) has = rw flat_map-cons (Contains-append_right (f z) (flat_map f xs) y (joined_have f xs x y (k, omega arith, same) has))

-- the events, by item and by index
abbrev events_of : Streams → List EventId
events_of s = flat_map (λ i. map (λ k. record { at = i; index = k }) (range_with_len 0 (length (trace_of s i)))) (items_of s.sizes)

has_event : (s : Streams) → ArePrefixes s → (e : EventId) → IsEvent s e → Contains (events_of s) e
has_event s prefixes e (x, there) =
    let group : Contains (range_with_len 0 (length s.sizes)) e.at.group = (e.at.group, grind (arith, length-range_with_len, group_of_event), grind (arith, get_or-range_with_len, group_of_event)) in
    joined_have _ (items_of s.sizes) e.at e
    (joined_have _ (range_with_len 0 (length s.sizes)) e.at.group e.at group (range_has _ (size_of s e.at.group) e.at.item (item_of_event s prefixes e x there)))
    (range_has _ (length (trace_of s e.at)) e.index (slice_get_within (trace_of s e.at) e.index x there))

-- there are as many as the lists have
events_many : (s : Streams) → ArePrefixes s → length (events_of s) ≡ event_count s
events_many s prefixes = simp (length-flat_map, length-map, length-range_with_len) (taken_events s prefixes)

-- no event stands twice in the order
apart : (s : Streams) (order : List EventId) → IsLawful s order → (i j : ℕ) (d : EventId) → i < j → j < length order → same_event (get_or order i d) (get_or order j d) ≡ false
apart s order lawful i j d before within = grind (arith, lawful.once i j (get_or order i d), slice_get-get_or)

pub order_is_short : (s : Streams) (order : List EventId) → ArePrefixes s → IsLawful s order → length order ≤ event_count s
order_is_short s order prefixes lawful = omega (arith, events_many s prefixes, length-le_from_is_member equal.laws-law order (events_of s) (IsDistinct-from_apart same_event order (apart s order lawful)) (λ e among. there e (Contains-from_any event_from_equal e order among)))
  where
    event_from_equal : (d e : EventId) → same_event d e ≡ true → d ≡ e
    event_from_equal d e same = grind arith

    there : (e : EventId) → Contains order e → is_member same_event (events_of s) e ≡ true
    there e h = list_any-from_Contains equal.laws-law e (events_of s) (has_event s prefixes e (lawful.event h.0 e (grind (arith, slice_get-get_or order h.0 e h.1, h.2))).0)
