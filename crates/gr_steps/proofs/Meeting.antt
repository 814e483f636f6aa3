-- A lawful order stays lawful where the barriers of an instance that can meet come after it; and when an instance can meet.
use Rattle.gr_model.proofs.Common.{◌≡◌, ℕ, ◌<◌, List, ◌++◌, Some, slice_get, refl, sym, inl, arith}
use Rattle.gr_steps.specs.Types.{EventId, Name}
use Rattle.gr_model.specs.Prelude.{IsConvergent, StandsIn, Mark, IsIn, IsLawful, HasName, ArePrefixes, IsEvent, Streams, IsSettled, IsPrevious, Waits, for_arrival, for_meeting, for_previous, for_release}
use Rattle.gr_steps.specs.Steps.{AreBarriers, HasMet, IsMeeting}
use Rattle.gr_steps.proofs.BarrierPlaces.{barrier_of, barrier_there, same_instance, stands_before, stands_same, meets_in}
use Rattle.gr_steps.proofs.EventRecords.{barriers_name_nothing}
use Rattle.gr_steps.proofs.Orders.{met_handled, lawful_longer, there_is, handled_upto, previous_of}

module _ (s : Streams) (prefixes : ArePrefixes s) (order : List EventId) (lawful : IsLawful s order) (g k : ℕ) (a : Mark) (meeting : IsMeeting s order g k a) (bs : List EventId) (are : AreBarriers s g k bs) where
  no_name : (x : EventId) (n : Name) → StandsIn s x g k → HasName s x n → ⊥
  no_name x n stands named =
      let there = barrier_there s x g k stands in barriers_name_nothing s prefixes x there.0 n there.1 there.2 (rw there.1 at named)

  -- what a barrier of the instance waits for is handled
  met_waits : (x d : EventId) → StandsIn s x g k → Waits s x d → IsIn order d
  met_waits x d stands (for_previous previous) = meeting.before x d stands previous
  met_waits x d stands (for_release match) = absurd (no_name x match.name stands match.by.named)
  met_waits x d stands (for_arrival m b met previous) = meeting.before b d (meets_in s g k m x b stands met) previous
  met_waits x d stands (for_meeting m c previous met) = met_handled s order lawful m c d (meeting.before x c stands previous) met

  -- each barrier is at its item's place
  barrier_at : (b : EventId) → StandsIn s b g k → slice_get bs b.at.item ≡ Some b
  barrier_at b stands =
      let there = there_is bs b.at.item (omega (arith, are.count, stands.item)) in
      let is = are.each b.at.item there.0 there.1 in grind (arith, there, stands_same s there.0 b g k is.1 stands is.0)

  met_event : (x : EventId) → StandsIn s x g k → IsEvent s x × IsSettled s x
  met_event x stands =
      let there = barrier_there s x g k stands in
      let meets : (h l : ℕ) → StandsIn s x h l → IsConvergent s h l a = λ h l other. grind (arith, same_instance s x g k h l stands other, meeting.convergent) in
      ((there.0, there.1), record { release = λ n named. absurd (no_name x n stands named); instance = λ h l other. inl (a, meets h l other) })

  pub lawful_meet : IsLawful s (order ++ bs)
  lawful_meet = lawful_longer s order bs lawful (record {
    event = λ i x at. met_event x (are.each i x at).1;
    fresh = λ i x at h. meeting.fresh (x, (are.each i x at).1, h);
    once = λ i j x at bt. omega (arith, (are.each i x at).0, (are.each j x bt).0);
    waits = λ i x d at w. met_waits x d (are.each i x at).1 w;
    together = λ i x b m at met. (b.at.item, omega (arith, (are.each i x at).0), barrier_at b (meets_in s g k m x b (are.each i x at).1 met));
  })

-- ---- when an instance can meet

-- an instance can meet where it is convergent and not handled, and the event before each of its barriers is: it is then the least
pub meeting_of : (s : Streams) (order : List EventId) → IsLawful s order → (g k : ℕ) (a : Mark) → IsConvergent s g k a → ¬ HasMet s order g k → ((b d : EventId) → StandsIn s b g k → IsPrevious d b → IsIn order d) → IsMeeting s order g k a
meeting_of s order lawful g k a convergent fresh before = record { convergent = convergent; fresh = fresh; least = least; before = before }
  where
    least : (l : ℕ) (b : Mark) → l < k → IsConvergent s g l b → HasMet s order g l
    least l m lt earlier =
        let first = barrier_of s g l m earlier 0 earlier.0 in
        let later = barrier_of s g k a convergent 0 convergent.0 in
        let c : EventId = record { at = record { group = g; item = 0 }; index = first.0 } in
        let b : EventId = record { at = record { group = g; item = 0 }; index = later.0 } in
        let p = previous_of b first.0 (stands_before s c b g l k first.1 later.1 refl lt) in
        (c, first.1, handled_upto s order lawful c p.0 (sym p.1.item) p.2 (before b p.0 later.1 p.1))
