-- Events of an order that grows at its end, and what is known along it.
use Rattle.gr_model.proofs.Common.{◌≡◌, ◌⊎◌, ℕ, ◌+◌, List, ◌++◌, length, Some, slice_get, inl, inr, ⊎_elim}
use Rattle.gr_closure.specs.Types.{EventId, ItemId, Space}
use Rattle.gr_model.specs.Prelude.{IsIn, Streams}
use Rattle.gr_model.proofs.Places.{slice_get-append}
use Rattle.gr_steps.proofs.Orders.{at_behind, split_last}
use Rattle.gr_closure.specs.Knowledge.{Knows, by_event, by_instance}

pub in_prefix : (old more : List EventId) (e : EventId) → IsIn old e → IsIn (old ++ more) e
in_prefix old more e h = (h.0, slice_get-append old more h.0 e h.1)

pub in_back : (old more : List EventId) (e : EventId) → IsIn more e → IsIn (old ++ more) e
in_back old more e h = (length old + h.0, at_behind old more h.0 e h.1)

pub in_longer : (old more : List EventId) (e : EventId) → IsIn (old ++ more) e → IsIn old e ⊎ IsIn more e
in_longer old more e h = ⊎_elim (λ at. inl (h.0, at)) (λ (b : (i : ℕ) × (h.0 ≡ length old + i) × (slice_get more i ≡ Some e)). inr (b.0, b.2)) (split_last old more h.0 e h.1)

-- what an item knows along an order, it knows along each that has all of its events
pub knows_more : (s : Streams) (m : Space) (old new : List EventId) (i : ItemId) (d : EventId) → ((e : EventId) → e.at ≡ i → IsIn old e → IsIn new e) → Knows s m old i d → Knows s m new i d
knows_more s m old new i d keep (by_event e h item seen) = by_event e (keep e item h) item seen
knows_more s m old new i d keep (by_instance a c b h item flagged met seen) = by_instance a c b (keep b item h) item flagged met seen

-- and what it knows along a longer one, it knew, or knows along what is new
pub knows_split : (s : Streams) (m : Space) (old more new : List EventId) (i : ItemId) (d : EventId) → new ≡ old ++ more → Knows s m new i d → Knows s m old i d ⊎ Knows s m more i d
knows_split s m old more new i d is (by_event e h item seen) =
    ⊎_elim (λ was. inl (by_event e was item seen)) (λ now. inr (by_event e now item seen)) (in_longer old more e (rw is at h))
knows_split s m old more new i d is (by_instance a c b h item flagged met seen) =
    ⊎_elim (λ was. inl (by_instance a c b was item flagged met seen)) (λ now. inr (by_instance a c b now item flagged met seen)) (in_longer old more b (rw is at h))
