-- A race of two events is one of them in their order.
use Rattle.gr_model.proofs.Common.{arith}
use Rattle.gr_model.specs.Types.{EventId, Word}
use Rattle.gr_model.specs.Prelude.{IsRacePair, IsTurned, Pair, IsRace, EventBelow, Streams, IsGrounded}
use Rattle.gr_model.proofs.HitsAreRaces.{may_race_swaps}

pub race_swap : (s : Streams) (w : Word) (e f : EventId) → IsRace s w e f → IsRace s w f e
race_swap s w e f race = record { may_race = may_race_swaps race.may_race; not_before = race.not_after; not_after = race.not_before }

pub race_pair : (s : Streams) (w : Word) (e f : EventId) (pair : Pair) → IsTurned e f pair → EventBelow pair.0 pair.1 → IsGrounded s e → IsGrounded s f → IsRace s w e f → IsRacePair s w pair
race_pair s w e f pair turned below first second race = grind (arith, race_swap)
