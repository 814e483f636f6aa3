-- What an event that is next in its item sees, as a count: what its item knows or it learns, and one more of its item.
use Rattle.gr_model.proofs.Common.{◌≡◌, ◌⊎◌, ◌↔◌, ℕ, ◌+◌, ◌<◌, max, List, refl, arith, count_by-le-length, length-filter, slice_get_within}
use Rattle.gr_sequencer.specs.Types.{EventId, ItemId, Space, LARGEST_COUNT}
use Rattle.gr_model.specs.Prelude.{Sees, IsIn, ArePrefixes, IsEvent, Streams, is_of, list_of, trace_of}
use Rattle.gr_steps.proofs.EventRecords.{group_of_event}
use Rattle.gr_model.proofs.Cuts.{same_event}
use Rattle.gr_clocks.specs.Counts.{tick_at}
use Rattle.gr_clocks.proofs.RowLemmas.{same_items, same_item_self}
use Rattle.gr_closure.proofs.NextInItem.{IsNextInItem}

-- what is so where another is so, which is so where a third is
pub through : {A B C : Type 0} → A ↔ B → B ↔ C → A ↔ C
through p q = (λ a. q.0 (p.0 a), λ c. p.1 (q.1 c))

pub against : {A B C : Type 0} → A ↔ B → C ↔ B → A ↔ C
against p q = (λ a. q.1 (p.0 a), λ c. p.1 (q.0 c))

-- what is below the greater of two counts
pub below_greater : {K L : Type 0} (x c l n : ℕ) → n ≡ max c l → (x < c) ↔ K → (x < l) ↔ L → (x < n) ↔ (K ⊎ L)
below_greater x c l n is known learned = grind arith

-- what is below a count that may have ticked
below_ticked : {S E K : Type 0} (x c t n : ℕ) → n ≡ c + t → (t ≡ 0 × (E → ⊥)) ⊎ (t ≡ 1 × (E ↔ (x ≡ c))) → S ↔ (E ⊎ K) → (x < c) ↔ K → (x < n) ↔ S
below_ticked x c t n is ticks sees known = grind arith

-- an event's index can be counted
pub index_counts : (s : Streams) → ArePrefixes s → (e : EventId) → IsEvent s e → e.index < LARGEST_COUNT
index_counts s prefixes e (x, there) =
    let few = (prefixes.each e.at.group (group_of_event s prefixes e x there)).few in
    let within = slice_get_within (trace_of s e.at) e.index x there in
    omega (arith, within, length-filter (is_of e.at.item) (list_of s e.at.group), count_by-le-length (is_of e.at.item) (list_of s e.at.group))

-- W is what the event's item knows, or that and what the event learns, as far as it counts
module _ (s : Streams) (m : Space) (order : List EventId) (e : EventId) (next : IsNextInItem order e) (W : EventId → Type 0) (handled : (d : EventId) → W d → IsIn order d) (own : (d : EventId) → d.at ≡ e.at → IsIn order d → W d)
    (c : ItemId → ℕ) (counts : (d : EventId) → (d.index < c d.at) ↔ W d) where
  -- of the item, all events before it
  pub own_count : c e.at ≡ e.index
  own_count =
      let d : EventId = record { at = e.at; index = c e.at } in
      grind (arith, counts d, handled d, own d refl, next d refl, counts e, handled e, own e refl, next e refl)

  -- with one event more it is what is seen
  pub seen_count : ((d : EventId) → Sees s m e d ↔ ((d ≡ e) ⊎ W d)) → (n : ItemId → ℕ) → ((j : ItemId) → n j ≡ c j + tick_at e.at j) → (d : EventId) → (d.index < n d.at) ↔ Sees s m e d
  seen_count sees n behind d =
      below_ticked d.index (c d.at) (tick_at e.at d.at) (n d.at) (behind d.at)
      (grind (arith, own_count, same_items e.at d.at, same_event d e, same_item_self e.at)) (sees d) (counts d)
