-- A word is hit in the accesses along an order exactly where two events of the order clash on it.
use Rattle.gr_model.proofs.Common.{◌≢◌, ◌↔◌, List, None, arith}
use Rattle.gr_closure.specs.Types.{EventId, Word}
use Rattle.gr_model.specs.Prelude.{IsIn, IsLawful, IsWholeOrder, IsGrounded, ClashesAt, SomePair, RacesInOrder, IsRacy, Lists, Streams, word_at}
use Rattle.gr_model.proofs.Descent.{lawful_is_grounded}
use Rattle.gr_model.proofs.HitsAreRaces.{hit_is_race, race_is_hit}
use Rattle.gr_model.proofs.Pairs.{PairIn, PairIn-from_some, SomeOf, SomeOf-place, SomePair-from_in}
use Rattle.gr_clocks.specs.ClockedAccess.{ClockedAccess, bare}
use Rattle.gr_shadow.specs.Clashes.{IsHitIn, clashes}
use Rattle.gr_closure.specs.Accesses.{IsAccess}
use Rattle.gr_closure.specs.AccessesAlong.{AreAccesses, of_none, of_access, of_other}
use Rattle.gr_closure.proofs.PairTests.{clash_is_hit, hit_is_clash}

-- a relation of two events, both with words, relates an earlier and a later event of an order exactly where one of accesses that says the same relates their accesses
module _ (s : Streams) (R : EventId → EventId → Type 0) (Q : ClockedAccess → ClockedAccess → Type 0) (same : (d g : EventId) (x y : ClockedAccess) → IsAccess s d (bare x) → IsAccess s g (bare y) → R d g ↔ Q x y) (words : (d g : EventId) → R d g → (word_at s d ≢ None) × (word_at s g ≢ None)) where
  later : (e : EventId) (x : ClockedAccess) (order : List EventId) (accesses : List ClockedAccess) → IsAccess s e (bare x) → AreAccesses s order accesses → SomeOf (R e) order ↔ SomeOf (Q x) accesses
  later e x _ _ of_e of_none = (λ h. h, λ h. h)
  later e x _ _ of_e (of_access {e = f} {x = y} {order = order} {accesses = accesses} of_f rest) =
      grind (arith, same e f x y of_e of_f, later e x order accesses of_e rest)
  later e x _ _ of_e (of_other {e = f} {order = order} {accesses = accesses} none rest) =
      grind (arith, words e f, none, later e x order accesses of_e rest)

  pairs : (order : List EventId) (accesses : List ClockedAccess) → AreAccesses s order accesses → PairIn R order ↔ PairIn Q accesses
  pairs _ _ of_none = (λ h. h, λ h. h)
  pairs _ _ (of_access {e = e} {x = x} {order = order} {accesses = accesses} of_e rest) = grind (arith, later e x order accesses of_e rest, pairs order accesses rest)
  pairs _ _ (of_other {e = e} {order = order} {accesses = accesses} none rest) =
      grind (arith, none, SomeOf-place (R e) order, words e, pairs order accesses rest)

  pub pairs_along : (order : List EventId) (accesses : List ClockedAccess) → AreAccesses s order accesses → SomePair Q accesses ↔ SomePair R order
  pairs_along order accesses are =
      grind (arith, pairs order accesses are, SomePair-from_in R order, SomePair-from_in Q accesses, PairIn-from_some R order, PairIn-from_some Q accesses)

pub hits_are_clashes : (s : Streams) (w : Word) (order : List EventId) (accesses : List ClockedAccess) → AreAccesses s order accesses → IsHitIn accesses w ↔ SomePair (RacesInOrder s w) order
hits_are_clashes s w order accesses are =
    pairs_along s (RacesInOrder s w) (ClashesAt (λ z. z.word) clashes w) (λ d g x y of_d of_g. (clash_is_hit s w d g x y of_d of_g, hit_is_clash s w d g x y of_d of_g))
    (λ d g c. grind (arith, c.may_race.word_first, c.may_race.word_second)) order accesses are

-- and where the order is lawful, exactly where it is racy within it
pub lawful_hits_are_races : (s : Streams) (order : List EventId) (accesses : List ClockedAccess) (w : Word) → IsLawful s order → AreAccesses s order accesses → IsHitIn accesses w ↔ IsRacy s (IsIn order) w
lawful_hits_are_races s order accesses w lawful are =
    grind (arith, hits_are_clashes s w order accesses are, hit_is_race s order w lawful, race_is_hit s order w)

pub whole_hits_are_races : (s : Streams) (order : List EventId) (accesses : List ClockedAccess) (w : Word) → IsWholeOrder s order → AreAccesses s order accesses → IsHitIn accesses w ↔ IsRacy s (IsGrounded s) w
whole_hits_are_races s order accesses w whole are =
    grind (arith, lawful_hits_are_races s order accesses w whole.lawful are, lawful_is_grounded s order, whole.whole)

-- a list of the values of which P holds lists those of which Q does, where both say the same
pub lists_as : {X : Type 0} {Below : X → X → Type 0} {P Q : X → Type 0} (xs : List X) → Lists Below P xs → ((x : X) → P x ↔ Q x) → Lists Below Q xs
lists_as xs lists same = grind arith
