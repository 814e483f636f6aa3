-- Why the first held event of an item is held: one of its names, or an event before a barrier that it meets.
use Rattle.gr_model.proofs.Common.{◌≡◌, ◌↔◌, ℕ, ◌+◌, ◌<◌, List, Option, None, Some, refl, ◌∙◌, ⊎_elim, arith, MatchOption, slice_get_within}
use Rattle.gr_timeline.specs.Types.{EventId, Name}
use Rattle.gr_model.specs.Prelude.{is_release, IsConvergent, IsDivergent, StandsIn, Mark, IsWholeOrder, HasName, IsOfItsWord, Matches, release_place, AreComplete, IsEvent, Streams, trace_of, IsGrounded, IsPrevious, Waits, for_arrival, for_meeting, for_previous, for_release}
use Rattle.gr_model.proofs.Descent.{lawful_is_grounded}
use Rattle.gr_model.proofs.GrowthLaws.{not_both}
use Rattle.gr_model.proofs.Places.{places_from-there}
use Rattle.gr_steps.proofs.BarrierPlaces.{barrier_there, moved, same_instance}
use Rattle.gr_steps.proofs.DecidedWaits.{settled}
use Rattle.gr_steps.proofs.EventRecords.{one_release}
use Rattle.gr_steps.proofs.Orders.{there_is}
use Rattle.gr_steps.proofs.Reached.{reached, stage_in}
use Rattle.gr_timeline.specs.Chains.{IsBehind}
use Rattle.gr_timeline.specs.Waiting.{HasGroundedRelease, HaveArrived, IsArrival, IsHeldEvent, IsLate, IsPassed}

-- ---- events that are there

-- with an event, the earlier ones of its item are there
pub earlier_there : (s : Streams) (d e : EventId) → IsEvent s e → d.at ≡ e.at → d.index < e.index → IsEvent s d
earlier_there s d e there at lt = grind (arith, there_is (trace_of s e.at) d.index, slice_get_within (trace_of s e.at) e.index there.0 there.1)

-- a release that has a name is there
pub release_there : (s : Streams) (n : Name) (k : ℕ) → release_place s n ≡ Some k → IsEvent s (record { at = n.at; index = k })
release_there s n k place = grind (arith, places_from-there is_release 0 (trace_of s n.at) n.release k place)

-- ---- what holds an event

module _ (s : Streams) (complete : AreComplete s) (order : List EventId) (whole : IsWholeOrder s order) where
  -- an event that is held, though all before it in its item and all releases that it names are grounded
  module _ (e : EventId) (held : IsHeldEvent s e) (passed : IsPassed s e) (names : (n : Name) → HasName s e n → HasGroundedRelease s e n) where
    waits : ((d : EventId) → IsArrival s e d → IsGrounded s d) → (d : EventId) → Waits s e d → IsGrounded s d
    waits arrival d (for_previous p) = passed d p.item (omega (arith, p.next))
    waits arrival d (for_release match) = grind (arith, names match.name match.by.named, one_release s match.name e, match.by)
    waits arrival d (for_arrival a b met p) = arrival d (record { mark = a; barrier = b; together = met; previous = p })
    waits arrival d (for_meeting a c p met) =
        let there = whole.whole c (passed c p.item (omega (arith, p.next))) in
        let other = whole.lawful.together there.0 c d a there.1 met in
        lawful_is_grounded s order d whole.lawful (other.0, other.2)

    stuck : ((d : EventId) → IsArrival s e d → IsGrounded s d) → ⊥
    stuck arrival =
        let all = reached s complete in
        held.held (all.0, all.2.stage e (all.2.closed e held.event (record { release = λ n named. let there = names n named in (there.0, there.1); instance = settled s complete e }) (λ d w. let g = waits arrival d w in stage_in s all.0 all.1 all.2 g.0 d g.1)))

    -- its instance is convergent
    convergent : (g k : ℕ) → StandsIn s e g k → (a : Mark) × IsConvergent s g k a
    convergent g k stands = ⊎_elim (λ c. c) (λ (d : IsDivergent s g k). absurd (stuck (λ x arrival.
        let met = arrival.together in
        let same = same_instance s e g k met.group met.instance stands met.first in
        absurd (not_both s met.group met.instance arrival.mark met.convergent (rw (← same.0, ← same.1) d))))) (settled s complete e g k stands)

    -- and an event before one of its barriers is held
    pub none_late : ((g k : ℕ) → StandsIn s e g k → HaveArrived s g k) → ⊥
    none_late arrived = stuck (λ d arrival. arrived arrival.together.group arrival.together.instance arrival.together.first arrival.barrier d arrival.together.second arrival.previous)

    pub late_arrival : (g k : ℕ) (d : EventId) → StandsIn s e g k → IsLate s g k d → IsArrival s e d
    late_arrival g k d stands late =
        let c = convergent g k stands in record {
          mark = c.0;
          barrier = late.barrier;
          together = record { group = g; instance = k; convergent = c.1; first = stands; second = late.stands };
          previous = late.previous;
        }

pub late_held : (s : Streams) (g k : ℕ) (d : EventId) → IsLate s g k d → IsHeldEvent s d
late_held s g k d late =
    let there = barrier_there s late.barrier g k late.stands in
    record { event = earlier_there s d late.barrier (there.0, there.1) late.previous.item (omega (arith, late.previous.next)); held = late.held }

-- ---- what calls return

module _ (s : Streams) where
  -- the events before the barriers of one item more are grounded
  pub one_item_more : (g k i : ℕ) → ((b d : EventId) → b.at.item < i → StandsIn s b g k → IsPrevious d b → IsGrounded s d) → ((b d : EventId) → b.at ≡ record { group = g; item = i } → StandsIn s b g k → IsPrevious d b → IsGrounded s d) → (b d : EventId) → b.at.item < i + 1 → StandsIn s b g k → IsPrevious d b → IsGrounded s d
  one_item_more g k i before here b d lt stands p = grind (arith, before b d, here b d)

  -- an event belongs to one instance alone
  pub late_by : (e : EventId) (n : ℕ) (o : Option EventId) → StandsIn s e e.at.group n → MatchOption o (HaveArrived s e.at.group n) (λ d. IsLate s e.at.group n d) → MatchOption o ((g k : ℕ) → StandsIn s e g k → HaveArrived s g k) (λ d. (g k : ℕ) × StandsIn s e g k × IsLate s g k d)
  late_by e n None here arrived = λ g k stands b d other p. grind (arith, arrived b d, same_instance s e g k e.at.group n stands here, moved s b g k)
  late_by e n (Some d) here late = (e.at.group, n, here, late)

  -- the release of a name, on the word of the event that has the name
  pub matches_of : (e : EventId) (n : Name) (index : ℕ) → HasName s e n → IsOfItsWord s e n → release_place s n ≡ Some index → Matches s e (record { at = n.at; index = index })
  matches_of e n index named its place = record { name = n; by = record { named = named; item = refl; place = place; word = grind (arith, its) } }

  -- the first event of an item that is not grounded, before another of the item
  pub first_behind : (e first : EventId) → first.at ≡ e.at → ((d : EventId) → d.at ≡ e.at → IsGrounded s d ↔ (d.index < first.index)) → first.index < e.index → IsBehind s e first
  first_behind e first at grounded before =
      record { item = at; before = before; first = record { held = λ g. omega (arith, (grounded first at).0 g); passed = λ d here lt. (grounded d (here ∙ at)).1 lt } }
