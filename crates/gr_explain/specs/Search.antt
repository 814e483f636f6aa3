-- What a search keeps of the accesses to a word: their events by classes, and the least pair of them that clashes.
-- Source: docs/MODEL.md, "Hits".
use Rattle.std.specs.Prelude.{◌≡◌, ◌⊎◌, ◌↔◌, Contains, List, [], ◌∷◌, ◌++◌}
use Rattle.gr_explain.specs.Types.{EventId, Word, Class}
use Rattle.gr_explain.specs.declared.search.Search.{Search}
use Rattle.gr_model.specs.Prelude.{Pair}
use Rattle.gr_shadow.specs.Clashes.{ClockedAccess}
use Rattle.gr_explain.specs.ClashPairs.{IsClashPair, IsOfList}
use Rattle.gr_explain.specs.LeastRaces.{IsLeastOf}
use Rattle.gr_explain.specs.Seen.{IsAmong, IsPairWith, SeenList}

-- an event of a class is one of these
pub record IsSeen (classes : List SeenList) (e : EventId) (c : Class) : Type 0 where
  pub list : SeenList
  pub there : Contains classes list
  pub class : list.class ≡ c
  pub among : IsAmong list.items e

-- the event of a class is seen, or was
abbrev pub IsSeenMore : List SeenList → EventId → Class → List SeenList → Type 0
IsSeenMore old event class new = (e : EventId) (c : Class) → IsSeen new e c ↔ (((e ≡ event) × (c ≡ class)) ⊎ IsSeen old e c)

-- the pair of a later access with one with which it clashes
pub record IsPairOf (classes : List SeenList) (y : ClockedAccess) (pair : Pair) : Type 0 where
  pub list : SeenList
  pub there : Contains classes list
  pub pair_with : IsPairWith list y pair

-- the search keeps each of these accesses to the word, and the least pair of them that clashes
pub record StandsFor {Z : Type 0} (w : Word) (accesses : List ClockedAccess) (search : Search Z) : Type 0 where
  pub seen : (e : EventId) (c : Class) → IsSeen search.classes.items e c ↔ IsOfList w accesses e c
  pub least : IsLeastOf (IsClashPair w accesses) search.least

-- one more access came, to the word or to another one
abbrev pub IsAdded : {Z : Type 0} → Word → ClockedAccess → Search Z → Search Z → Type 0
IsAdded w y old new = (accesses : List ClockedAccess) → StandsFor w accesses old → StandsFor w (accesses ++ y ∷ []) new
