-- The racing pairs of a word, and the clashes of the accesses along a lawful order of all grounded events.
use Rattle.gr_model.proofs.Common.{arith, ◌≡◌, ◌<◌, Contains, List, Option, Some, None, MatchOption, sym, ap, ◌∙◌, inl, inr, refl, ⊎_elim, cases_order}
use Rattle.gr_explain.specs.Types.{EventId, Word, Access}
use Rattle.gr_model.specs.Prelude.{IsWholeOrder, IsRacePair, Pair, IsRace, IsRacy, RacesInOrder, Streams, word_at, IsGrounded}
use Rattle.gr_model.proofs.HitsAreRaces.{may_race_swaps}
use Rattle.gr_model.proofs.Places.{Contains-at}
use Rattle.gr_model.proofs.RacePairLaws.{race_swap}
use Rattle.gr_clocks.specs.ClockedAccess.{ClockedAccess, bare, clocked}
use Rattle.gr_closure.specs.Accesses.{IsAccess}
use Rattle.gr_closure.proofs.Adding.{bare_access}
use Rattle.gr_explain.specs.Judged.{ClashOn}
use Rattle.gr_closure.specs.AccessesAlong.{AreAccesses}
use Rattle.gr_closure.proofs.Pairing.{clashes_are_race_pairs}
use Rattle.gr_closure.proofs.PairTests.{clash_is_hit, hit_is_clash}
use Rattle.gr_shadow.specs.Clashes.{IsClashIn, event_of}
use Rattle.gr_explain.specs.LeastRaces.{IsLeastOf, IsLeastRace}
use Rattle.gr_explain.specs.ClashPairs.{IsClashPair}
use Rattle.gr_explain.proofs.KeptLemmas.{access_there, event_there}
use Rattle.gr_explain.proofs.PairOrder.{either_way, least_same}

-- a word that has a racing pair is racy, and else it is not
not_racy : (s : Streams) (w : Word) → ((pair : Pair) → ¬ IsRacePair s w pair) → ¬ IsRacy s (IsGrounded s) w
not_racy s w none (e, f, of_e, of_f, race) = ⊎_elim
    (λ below. none (e, f) (record { below = below; first = of_e; second = of_f; race = race }))
    (λ other. ⊎_elim (λ below. none (f, e) (record { below = below; first = of_f; second = of_e; race = race_swap s w e f race })) (λ same. race.may_race.others (ap (λ x. x.at) same)) other)
    (either_way e f)

module _ (s : Streams) (w : Word) (order : List EventId) (accesses : List ClockedAccess) (whole : IsWholeOrder s order) (are : AreAccesses s order accesses) where
  -- the access of an event among these
  record HasAccess (e : EventId) : Type 0 where
    access : ClockedAccess
    there : Contains accesses access
    event : event_of access ≡ e
    is : IsAccess s e (bare access)

  its_access : (e : EventId) → IsGrounded s e → word_at s e ≡ Some w → HasAccess e
  its_access e grounded word =
      let p = whole.whole e grounded in
      ⊎_elim (λ (none : word_at s e ≡ None). cc) (λ x. record { access = x.0; there = x.1; event = x.2; is = rw x.2 at (event_there s order accesses x.0 are x.1).1 }) (access_there s order accesses p.0 e are p.1)

  -- the later one of two accesses clashes with the earlier one if their events do
  clashes : (e f : EventId) (x : HasAccess e) (y : HasAccess f) → RacesInOrder s w e f → x.there.0 < y.there.0 → IsClashIn accesses w e f
  clashes e f x y race lt = (x.there.0, y.there.0, x.access, y.access, lt, Contains-at accesses x.access x.there, Contains-at accesses y.access y.there, record { clash = clash_is_hit s w e f x.access y.access x.is y.is race; earlier = x.event; later = y.event })

  pub race_is_clash : (pair : Pair) → IsRacePair s w pair → IsClashPair w accesses pair
  race_is_clash (e, f) is =
      let race = is.race in
      let x = its_access e is.first race.may_race.word_first in
      let y = its_access f is.second race.may_race.word_second in
      ⊎_elim
      (λ (same : x.there.0 ≡ y.there.0).
      let access : x.access ≡ y.access = grind (arith, Contains-at accesses x.access x.there, Contains-at accesses y.access y.there) in
      absurd (race.may_race.others (ap (λ (d : EventId). d.at) (sym x.event ∙ (ap event_of access ∙ y.event)))))
      (⊎_elim
      (λ lt. record { earlier = e; later = f; clash = clashes e f x y (record { may_race = race.may_race; not_before = race.not_before }) lt; turned = inl refl; below = is.below })
      (λ gt. record { earlier = f; later = e; clash = clashes f e y x (record { may_race = may_race_swaps race.may_race; not_before = race.not_after }) gt; turned = inr refl; below = is.below }))
      (cases_order x.there.0 y.there.0)

  pub clash_is_race : (pair : Pair) → IsClashPair w accesses pair → IsRacePair s w pair
  clash_is_race pair is = clashes_are_race_pairs s order accesses w is.earlier is.later pair whole.lawful are is.clash is.turned is.below

  -- the least clash of the accesses is the least racing pair, and without one the word is not racy
  pub least_race : (least : Option Pair) → IsLeastOf (IsClashPair w accesses) least → MatchOption least (¬ IsRacy s (IsGrounded s) w) (λ pair. IsLeastRace s w pair)
  least_race None none = not_racy s w (λ pair is. none pair (race_is_clash pair is))
  least_race (Some least) is = least_same (IsClashPair w accesses) (IsRacePair s w) (Some least) clash_is_race race_is_clash is

-- ---- two accesses race where each clashes with the other

module _ {Z : Type 0} (s : Streams) (w : Word) (e f : EventId) (a b : Access Z) (of_e : IsAccess s e a) (of_f : IsAccess s f b) where
  pub clashes_are_race : ClashOn w (clocked a) (clocked b) × ClashOn w (clocked b) (clocked a) → IsRace s w e f
  clashes_are_race h =
      let one = hit_is_clash s w e f (clocked a) (clocked b) (bare_access s e a of_e) (bare_access s f b of_f) h.0 in
      let other = hit_is_clash s w f e (clocked b) (clocked a) (bare_access s f b of_f) (bare_access s e a of_e) h.1 in
      record { may_race = one.may_race; not_before = one.not_before; not_after = other.not_before }

  pub race_clashes : IsRace s w e f → ClashOn w (clocked a) (clocked b) × ClashOn w (clocked b) (clocked a)
  race_clashes race = (
    clash_is_hit s w e f (clocked a) (clocked b) (bare_access s e a of_e) (bare_access s f b of_f) (record { may_race = race.may_race; not_before = race.not_before }),
    clash_is_hit s w f e (clocked b) (clocked a) (bare_access s f b of_f) (bare_access s e a of_e) (record { may_race = may_race_swaps race.may_race; not_before = race.not_after }),
  )
