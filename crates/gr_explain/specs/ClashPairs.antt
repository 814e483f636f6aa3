-- The accesses to a word in a list, and the pairs of them that clash.
-- Source: docs/MODEL.md, "Hits".
use Rattle.std.specs.Prelude.{◌≡◌, Contains, List}
use Rattle.gr_explain.specs.Types.{EventId, Word, Class}
use Rattle.gr_model.specs.Prelude.{IsTurned, Pair, EventBelow}
use Rattle.gr_shadow.specs.Clashes.{ClockedAccess, IsClashIn, event_of}

-- an event of a class is that of an access to the word
pub record IsOfList (w : Word) (accesses : List ClockedAccess) (e : EventId) (c : Class) : Type 0 where
  pub access : ClockedAccess
  pub there : Contains accesses access
  pub word : access.word ≡ w
  pub event : event_of access ≡ e
  pub class : access.class ≡ c

-- two accesses of the list that clash on the word, the smaller event first
pub record IsClashPair (w : Word) (accesses : List ClockedAccess) (pair : Pair) : Type 0 where
  pub earlier : EventId
  pub later : EventId
  pub clash : IsClashIn accesses w earlier later
  pub turned : IsTurned earlier later pair
  pub below : EventBelow pair.0 pair.1
