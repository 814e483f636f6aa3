-- What follows from the definitions of the steps, each the contract of a function that does nothing.
use Rattle.std.specs.Prelude.{◌≡◌, ◌⊎◌, ◌↔◌, ℕ, ◌-◌, ◌<◌, List, [], length}
use Rattle.std.specs.List.{sum_by}
use Rattle.gr_steps.specs.Types.{EventId, ItemId, Word}
use Rattle.gr_model.specs.Prelude.{items_of, Streams, ArePrefixes, AreComplete, Grows, IsEvent, trace_of, IsGrounded, IsLawful, IsIn, IsRacy, IsHeld, IsUnmatchedAcquire, WholeReport, IsReportButRaces}
use Rattle.gr_steps.specs.Steps.{IsReady, Handles, Meets, IsAtRest, AreGrounded, AreFirst}

-- an event that may be handled is the next of its item: the handled ones are those before it
abbrev pub ReadyIsNext : Type 0
ReadyIsNext = (s : Streams) (order : List EventId) (e d : EventId) → IsLawful s order → IsReady s order e → d.at ≡ e.at → IsIn order d ↔ (d.index < e.index)

-- an event that is handled, and the barriers of an instance that meets, make a lawful order longer
abbrev pub HandleStaysLawful : Type 0
HandleStaysLawful = (s : Streams) (old new : List EventId) (e : EventId) → IsLawful s old → Handles s old e new → IsLawful s new

abbrev pub MeetStaysLawful : Type 0
MeetStaysLawful = (s : Streams) (old new : List EventId) (g k : ℕ) → ArePrefixes s → IsLawful s old → Meets s old g k new → IsLawful s new

-- a lawful order is one where lists that are not complete grow
abbrev pub GrowthStaysLawful : Type 0
GrowthStaysLawful = (s t : Streams) (order : List EventId) → Grows s t → IsLawful s order → IsLawful t order

-- and a step after it is one too
abbrev pub HandlesStay : Type 0
HandlesStay = (s t : Streams) (old new : List EventId) (e : EventId) → Grows s t → IsLawful s old → Handles s old e new → Handles t old e new

abbrev pub MeetsStay : Type 0
MeetsStay = (s t : Streams) (old new : List EventId) (g k : ℕ) → Grows s t → IsLawful s old → Meets s old g k new → Meets t old g k new

-- where no step is left, the handled events are the grounded ones
abbrev pub RestIsGrounded : Type 0
RestIsGrounded = (s : Streams) (order : List EventId) → IsLawful s order → IsAtRest s order → AreGrounded s order

-- and what was not handled of each item makes the number of the events that are held
abbrev pub HeldAtRest : Type 0
HeldAtRest = (s : Streams) (order : List EventId) (c : ItemId → ℕ) → IsLawful s order → IsAtRest s order → AreFirst order c → IsHeld s (sum_by (λ i. length (trace_of s i) - c i) (items_of s.sizes))

-- ---- complete lists

-- no acquire is unmatched
abbrev pub NoneIsUnmatched : Streams → Type 0
NoneIsUnmatched s = (e : EventId) → ¬ IsUnmatchedAcquire s e

-- in complete lists each event is grounded or is not
abbrev pub GroundedIsDecided : Type 0
GroundedIsDecided = (s : Streams) (e : EventId) → AreComplete s → IsGrounded s e ⊎ ¬ IsGrounded s e

-- a report of complete lists that names no unmatched acquire says that there is none
abbrev pub UnmatchedAreReported : Type 0
UnmatchedAreReported = (s : Streams) (r : WholeReport) → IsReportButRaces s r → r.unmatched ≡ [] → NoneIsUnmatched s

-- where no acquire is unmatched in complete lists, every event is grounded, and every race is one of grounded events
abbrev pub AllIsGrounded : Type 0
AllIsGrounded = (s : Streams) (e : EventId) → AreComplete s → NoneIsUnmatched s → IsEvent s e → IsGrounded s e

abbrev pub AllRacesCount : Type 0
AllRacesCount = (s : Streams) (w : Word) → AreComplete s → NoneIsUnmatched s → IsRacy s (IsGrounded s) w ↔ IsRacy s (IsEvent s) w
