-- What a step does to what the work-items know.
-- Source: docs/MODEL.md, "Clocks".
use Rattle.std.specs.Prelude.{◌≡◌, ◌≢◌, ◌⊎◌, ◌↔◌, ℕ, ◌<◌, List, IsTrue, IsFalse}
use Rattle.gr_closure.specs.Types.{Space, ItemId, EventId}
use Rattle.gr_model.specs.Prelude.{flags, Streams, ArePrefixes, Grows, size_of, StandsIn, IsLawful, IsIn, IsCount, Sees}
use Rattle.gr_steps.specs.Steps.{Handles, Meets}
use Rattle.gr_clocks.specs.Counts.{Counts, count_of}
use Rattle.gr_closure.specs.Accesses.{CountsJust}
use Rattle.gr_closure.specs.Knowledge.{Knows, Learns}

-- ---- what is known was handled

abbrev pub KnownAreHandled : Type 0
KnownAreHandled = (s : Streams) (m : Space) (order : List EventId) (i : ItemId) (d : EventId) → IsLawful s order → Knows s m order i d → IsIn order d

abbrev pub SeenAreHandled : Type 0
SeenAreHandled = (s : Streams) (m : Space) (order : List EventId) (e d : EventId) → IsLawful s order → IsIn order e → Sees s m e d → IsIn order d

-- and an item knows of its own events that were
abbrev pub OwnAreKnown : Type 0
OwnAreKnown = (s : Streams) (m : Space) (order : List EventId) (i : ItemId) (d : EventId) → d.at ≡ i → IsIn order d → Knows s m order i d

-- ---- an event is handled

-- it sees itself, what its item knew, and what it learns
abbrev pub HandledSees : Type 0
HandledSees = (s : Streams) (m : Space) (old new : List EventId) (e d : EventId) → IsLawful s old → Handles s old e new → Sees s m e d ↔ ((d ≡ e) ⊎ Knows s m old e.at d ⊎ Learns s m e d)

-- its item then knows what it sees, and the others know what they did
abbrev pub HandledKnows : Type 0
HandledKnows = (s : Streams) (m : Space) (old new : List EventId) (e d : EventId) → IsLawful s old → Handles s old e new → Knows s m new e.at d ↔ Sees s m e d

abbrev pub OthersKnowAfterHandle : Type 0
OthersKnowAfterHandle = (s : Streams) (m : Space) (old new : List EventId) (e : EventId) (i : ItemId) (d : EventId) → IsLawful s old → Handles s old e new → i ≢ e.at → Knows s m new i d ↔ Knows s m old i d

-- ---- an instance meets

-- each of its barriers sees itself and what its item knew
abbrev pub MetSees : Type 0
MetSees = (s : Streams) (m : Space) (old new : List EventId) (g k : ℕ) (b d : EventId) → ArePrefixes s → IsLawful s old → Meets s old g k new → StandsIn s b g k → Sees s m b d ↔ ((d ≡ b) ⊎ Knows s m old b.at d)

-- in a memory that it flags, each item of the group then knows what any of the barriers sees
abbrev pub FlaggedKnows : Type 0
FlaggedKnows = (s : Streams) (m : Space) (old new : List EventId) (g k : ℕ) (i : ItemId) (d : EventId) → ArePrefixes s → IsLawful s old → (met : Meets s old g k new) → IsTrue (flags met.mark m) → i.group ≡ g → i.item < size_of s g → Knows s m new i d ↔ ((b : EventId) × StandsIn s b g k × Sees s m b d)

-- in the other, each knows what its own barrier sees
abbrev pub UnflaggedKnows : Type 0
UnflaggedKnows = (s : Streams) (m : Space) (old new : List EventId) (g k : ℕ) (b d : EventId) → ArePrefixes s → IsLawful s old → (met : Meets s old g k new) → IsFalse (flags met.mark m) → StandsIn s b g k → Knows s m new b.at d ↔ Sees s m b d

-- the items of other groups know what they did
abbrev pub OthersKnowAfterMeet : Type 0
OthersKnowAfterMeet = (s : Streams) (m : Space) (old new : List EventId) (g k : ℕ) (i : ItemId) (d : EventId) → ArePrefixes s → IsLawful s old → Meets s old g k new → i.group ≢ g → Knows s m new i d ↔ Knows s m old i d

-- ---- lists that are not complete grow

abbrev pub KnowledgeStays : Type 0
KnowledgeStays = (s t : Streams) (m : Space) (order : List EventId) (i : ItemId) (d : EventId) → Grows s t → IsLawful s order → Knows s m order i d ↔ Knows t m order i d

abbrev pub SeenStay : Type 0
SeenStay = (s t : Streams) (m : Space) (order : List EventId) (e d : EventId) → Grows s t → IsLawful s order → IsIn order e → Sees s m e d ↔ Sees t m e d

-- ---- clocks

-- a clock that counts just what an event of the order sees has of each item the number of its events that are the event or happen before it
abbrev pub ClocksCount : Type 0
ClocksCount = (s : Streams) (m : Space) (order : List EventId) (e : EventId) (c : Counts) (j : ItemId) → IsLawful s order → IsIn order e → CountsJust c (Sees s m e) → IsCount s m e j (count_of c j)
