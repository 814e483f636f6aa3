-- What is known after the threads and the seats of a run are joined.
-- Source: docs/QUEUES.md, "The intake queue" and "The work queue".
use Rattle.std.specs.Prelude.{◌≡◌, ℕ, ◌<◌, ◌%◌, List, [], ◌∷◌, length, map, slice_get, slice_index_or, Some, IsTrue, ⊤}
use Rattle.atomic_table.specs.Seated.{TableId}
use Rattle.gr_steps.specs.Types.{Event, Word}
use Rattle.gr_model.specs.declared.event.Sent.{Sent}
use Rattle.gr_model.specs.Prelude.{events_of, is_complete}
use Rattle.gr_route.specs.IntakeSeats.{Seat, Taker}
use Rattle.gr_route.specs.Prefixes.{StartsWith}
use Rattle.gr_shadow.specs.Clashes.{ClockedAccess, IsHitIn}

-- what was popped of each queue
abbrev pub pops_of : List Taker → List (List Sent)
pops_of takers = map (λ (t : Taker). t.popped) takers

-- what was popped of a group, whose queue follows from its number
abbrev pub popped_at : List (List Sent) → ℕ → List Event
popped_at pops g = events_of g (slice_index_or pops (g % length pops) [])

-- the receipt is of the queue of its group
abbrev pub IsHere : List TableId → Seat → Type 0
IsHere intakes r = slice_get intakes (r.group % length intakes) ≡ Some r.queue

-- what was popped of the receipt's group is a prefix of what was pushed, and is all of it if it has its end
pub record IsPopped (pops : List (List Sent)) (r : Seat) : Type 0 where
  pub prefix : StartsWith r.pushed (popped_at pops r.group)
  pub whole : IsTrue (is_complete (popped_at pops r.group)) → popped_at pops r.group ≡ r.pushed

abbrev pub ArePopped : List (List Sent) → List Seat → Type 0
ArePopped pops [] = ⊤
ArePopped pops (r ∷ receipts) = IsPopped pops r × ArePopped pops receipts

-- a word is hit in the accesses that some worker got
abbrev pub IsHitAmong : List (List ClockedAccess) → Word → Type 0
IsHitAmong given w = (k : ℕ) × (k < length given) × IsHitIn (slice_index_or given k []) w
