-- The events of two accesses along an order of which the later one clashes with the earlier one.
use Rattle.gr_model.proofs.Common.{◌↔◌, arith, ◌≡◌, List}
use Rattle.gr_closure.specs.Types.{EventId, Word}
use Rattle.gr_model.specs.Prelude.{IsLawful, SomePair, IsRacePair, IsTurned, Pair, RacesInOrder, EventBelow, Streams}
use Rattle.gr_model.proofs.Cuts.{same_event}
use Rattle.gr_model.proofs.Descent.{lawful_is_grounded}
use Rattle.gr_model.proofs.HitsAreRaces.{clash_is_race}
use Rattle.gr_model.proofs.RacePairLaws.{race_pair}
use Rattle.gr_clocks.specs.ClockedAccess.{ClockedAccess, bare}
use Rattle.gr_shadow.specs.Clashes.{IsClashIn, IsClashOf, event_of}
use Rattle.gr_closure.specs.Accesses.{IsAccess}
use Rattle.gr_closure.specs.AccessesAlong.{AreAccesses}
use Rattle.gr_closure.proofs.Clashing.{pairs_along}
use Rattle.gr_closure.proofs.PairTests.{clash_is_hit, hit_is_clash}

module _ (s : Streams) (w : Word) (e f : EventId) where
  -- two events that clash on the word are these
  abbrev AreClashing : EventId → EventId → Type 0
  AreClashing d g = RacesInOrder s w d g × (d ≡ e) × (g ≡ f)

  -- two accesses that clash are those of two events of the order that clash
  clash_there : (order : List EventId) (accesses : List ClockedAccess) → AreAccesses s order accesses → IsClashIn accesses w e f → SomePair AreClashing order
  clash_there order accesses are = (pairs_along s AreClashing (IsClashOf w e f) same (λ d g c. grind (arith, c.0.may_race.word_first, c.0.may_race.word_second)) order accesses are).0
    where
      same : (d g : EventId) (x y : ClockedAccess) → IsAccess s d (bare x) → IsAccess s g (bare y) → AreClashing d g ↔ IsClashOf w e f x y
      same d g x y of_d of_g =
          grind (arith, clash_is_hit s w d g x y of_d of_g, hit_is_clash s w d g x y of_d of_g, same_event (event_of x) d, same_event (event_of y) g)

pub clashes_are_race_pairs : (s : Streams) (order : List EventId) (accesses : List ClockedAccess) (w : Word) (e f : EventId) (pair : Pair) → IsLawful s order → AreAccesses s order accesses → IsClashIn accesses w e f → IsTurned e f pair → EventBelow pair.0 pair.1 → IsRacePair s w pair
clashes_are_race_pairs s order accesses w e f pair lawful are h turned below =
    let c = clash_there s w e f order accesses are h in
    let race = clash_is_race s order w c.0 c.1 c.2 c.3 lawful c.4 c.5 c.6 c.7.0 in
    grind (arith, race_pair s w e f pair turned below, c.7, lawful_is_grounded s order c.2 lawful (c.0, c.5), lawful_is_grounded s order c.3 lawful (c.1, c.6), race)
