-- What follows of the accesses along an order, each the contract of a function that does nothing.
use Rattle.std.specs.Prelude.{◌≡◌, ◌↔◌, ℕ, List, [], ◌∷◌, ◌++◌, None}
use Rattle.gr_closure.specs.Types.{EventId, Word}
use Rattle.gr_model.specs.Prelude.{Streams, Grows, word_at, IsGrounded, IsLawful, IsWholeOrder, IsIn, RacesInOrder, IsRacy, SomePair}
use Rattle.gr_steps.specs.Steps.{Handles, Meets}
use Rattle.gr_clocks.specs.ClockedAccess.{ClockedAccess, bare}
use Rattle.gr_shadow.specs.Clashes.{IsHitIn}
use Rattle.gr_closure.specs.Accesses.{IsAccess}
use Rattle.gr_closure.specs.AccessesAlong.{AreAccesses}

-- a word is hit in the accesses along an order exactly where an event of the order clashes on it with an earlier one
abbrev pub HitsAreClashes : Type 0
HitsAreClashes = (s : Streams) (order : List EventId) (accesses : List ClockedAccess) (w : Word) → AreAccesses s order accesses → IsHitIn accesses w ↔ SomePair (RacesInOrder s w) order

-- along a lawful order exactly where it is racy within the order
abbrev pub LawfulHitsAreRaces : Type 0
LawfulHitsAreRaces = (s : Streams) (order : List EventId) (accesses : List ClockedAccess) (w : Word) → IsLawful s order → AreAccesses s order accesses → IsHitIn accesses w ↔ IsRacy s (IsIn order) w

-- and along one of all grounded events exactly where it is racy among these
abbrev pub WholeHitsAreRaces : Type 0
WholeHitsAreRaces = (s : Streams) (order : List EventId) (accesses : List ClockedAccess) (w : Word) → IsWholeOrder s order → AreAccesses s order accesses → IsHitIn accesses w ↔ IsRacy s (IsGrounded s) w

-- ---- steps

-- an event that is handled adds its access, or where it has no word nothing
abbrev pub HandledAdds : Type 0
HandledAdds = (s : Streams) (old new : List EventId) (e : EventId) (accesses : List ClockedAccess) (x : ClockedAccess) → Handles s old e new → AreAccesses s old accesses → IsAccess s e (bare x) → AreAccesses s new (accesses ++ x ∷ [])

abbrev pub OthersAddNone : Type 0
OthersAddNone = (s : Streams) (old new : List EventId) (e : EventId) (accesses : List ClockedAccess) → Handles s old e new → AreAccesses s old accesses → word_at s e ≡ None → AreAccesses s new accesses

-- an instance that meets adds none
abbrev pub MetAddNone : Type 0
MetAddNone = (s : Streams) (old new : List EventId) (g k : ℕ) (accesses : List ClockedAccess) → Meets s old g k new → AreAccesses s old accesses → AreAccesses s new accesses

-- ---- growth

-- the accesses along an order stay so where lists that are not complete grow
abbrev pub AccessesStay : Type 0
AccessesStay = (s t : Streams) (order : List EventId) (accesses : List ClockedAccess) → Grows s t → IsLawful s order → AreAccesses s order accesses → AreAccesses t order accesses
