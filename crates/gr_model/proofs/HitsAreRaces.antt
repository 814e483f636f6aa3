-- Along a lawful order the words hit are the racy ones.
use Rattle.gr_model.proofs.Common.{◌≡◌, ℕ, ◌<◌, List, ⊎_elim, arith, eqb, cases_lt, nat_tests}
use Rattle.std.proofs.Math.Bool.{or_comm}
use Rattle.gr_model.specs.Types.{EventId, Word}
use Rattle.gr_model.specs.Prelude.{memory_of, SomePair, IsAt, IsLawful, RacesInOrder, MayRace, IsRace, IsRacy, Streams}
use Rattle.gr_model.proofs.Descent.{below_before, lawful_descends}

pub eqb_swap : (a b : ℕ) → eqb a b ≡ eqb b a
eqb_swap a b = grind (arith, nat_tests)

pub may_race_swaps : {s : Streams} {w : Word} {e f : EventId} → MayRace s w e f → MayRace s w f e
may_race_swaps c = grind (arith, or_comm, eqb_swap)

-- where a later event of a lawful order clashes with an earlier one the two are a race
pub clash_is_race : (s : Streams) (order : List EventId) (w : Word) (p q : ℕ) (e f : EventId) → IsLawful s order → p < q → IsAt order p e → IsAt order q f → RacesInOrder s w e f → IsRace s w e f
clash_is_race s order w p q e f lawful lt at_e at_f clash =
    grind (arith, below_before s (IsAt order) (lawful_descends s order lawful) (memory_of w) f e, lawful.once)

pub hit_is_race : (s : Streams) (order : List EventId) (w : Word) → IsLawful s order → SomePair (RacesInOrder s w) order → IsRacy s (λ e. (p : ℕ) × IsAt order p e) w
hit_is_race s order w lawful h = (h.2, h.3, (h.0, h.5), (h.1, h.6), clash_is_race s order w h.0 h.1 h.2 h.3 lawful h.4 h.5 h.6 h.7)

pub race_is_hit : (s : Streams) (order : List EventId) (w : Word) → IsRacy s (λ e. (p : ℕ) × IsAt order p e) w → SomePair (RacesInOrder s w) order
race_is_hit s order w (e, f, (p, at_e), (q, at_f), race) =
    ⊎_elim
    (λ lt. (p, q, e, f, lt, at_e, at_f, record { may_race = race.may_race; not_before = race.not_before }))
    (λ ge.
    let lt : q < p = grind (arith, ge, at_e, at_f, race.may_race.others) in
    (q, p, f, e, lt, at_f, at_e, record { may_race = may_race_swaps race.may_race; not_before = race.not_after }))
    (cases_lt p q)
