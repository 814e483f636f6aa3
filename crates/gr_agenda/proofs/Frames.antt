-- What a step changes: an item or a group that it does not touch can go on only as before, or by a release that it waited for.
use Rattle.gr_model.proofs.Common.{◌≡◌, ◌⊎◌, ℕ, ◌<◌, List, [], ◌∷◌, ◌++◌, Some, append-nil, refl, sym, ap, ◌∙◌, subst, inl, inr, ⊎_elim, arith, slice_get_within}
use Rattle.gr_agenda.specs.Types.{EventId, ItemId, Name}
use Rattle.gr_model.specs.Prelude.{is_release, IsDivergent, StandsIn, arrivals, Mark, IsIn, IsLawful, HasName, MatchesBy, names_at, release_place, Grows, IsEvent, Streams, event_at, list_of, places_from, size_of, trace_of, Waits, for_arrival, for_meeting, for_previous, for_release}
use Rattle.gr_model.proofs.Cuts.{same_event}
use Rattle.gr_model.proofs.GrowthLaws.{convergent_grows, not_both, stands_grows, stands_shrinks, trace_grows, word_grows}
use Rattle.gr_model.proofs.Places.{places_from-append, places_from-within, slice_get-append}
use Rattle.gr_steps.specs.Steps.{CanMeet, IsMeeting, IsReady}
use Rattle.gr_steps.proofs.Deciding.{all_or_some}
use Rattle.gr_steps.proofs.EventRecords.{one_release}
use Rattle.gr_steps.proofs.Orders.{split_last}
use Rattle.gr_agenda.specs.Kept.{IsHeldUp, IsReleaseHandled}

-- t has the records of s and maybe more. The events New are handled after those of h, which makes those of h2. An event for which T does
-- not hold is as it was, no event of its item is new, and its instances are divergent only where they were
pub record Frame (s t : Streams) (h h2 : List EventId) (New T : EventId → Type 0) : Type 0 where
  pub grows : Grows s t
  pub lawful : IsLawful s h
  pub old : (x : EventId) → IsIn h x → IsIn h2 x
  pub split : (x : EventId) → IsIn h2 x → IsIn h x ⊎ New x
  pub fresh : (x : EventId) → New x → ¬ IsIn h x
  pub touched : (x d : EventId) → New x → x.at ≡ d.at → T d
  pub event : (d : EventId) → ¬ T d → event_at t d ≡ event_at s d
  pub divergent : (d : EventId) (g k : ℕ) → ¬ T d → StandsIn s d g k → IsDivergent t g k → IsDivergent s g k

-- nothing new is handled
pub frame_taken : (s t : Streams) (h : List EventId) (T : EventId → Type 0) → Grows s t → IsLawful s h → ((d : EventId) → ¬ T d → event_at t d ≡ event_at s d)
    → ((d : EventId) (g k : ℕ) → ¬ T d → StandsIn s d g k → IsDivergent t g k → IsDivergent s g k) → Frame s t h h (λ x. ⊥) T
frame_taken s t h T grows lawful event divergent = grind arith

-- and then these events are
pub frame_more : {s t : Streams} {h : List EventId} {T : EventId → Type 0} → Frame s t h h (λ x. ⊥) T → (new : List EventId)
    → ((x : EventId) → IsIn new x → ¬ IsIn h x) → ((x d : EventId) → IsIn new x → x.at ≡ d.at → T d) → Frame s t h (h ++ new) (IsIn new) T
frame_more {h} frame new fresh touched = grind (arith, slice_get-append h new, split_last h new, frame, fresh, touched)

pub frame_event : {s t : Streams} {h : List EventId} {T : EventId → Type 0} → Frame s t h h (λ x. ⊥) T → (e : EventId) → ¬ IsIn h e
    → ((d : EventId) → d.at ≡ e.at → T d) → Frame s t h (h ++ e ∷ []) (λ x. x ≡ e) T
frame_event {h} frame e fresh touched = grind (arith, slice_get-append h (e ∷ []), split_last h (e ∷ []), frame, fresh, touched)

-- of the same streams
pub frame_same : (s : Streams) (h : List EventId) (T : EventId → Type 0) → IsLawful s h → Frame s s h h (λ x. ⊥) T
frame_same s h T lawful = frame_taken s s h T (record {
  sizes = λ g. inl refl;
  lists = λ g. ([], sym (append-nil (list_of s g)));
  whole = λ g whole. refl;
}) lawful (λ d apart. refl) (λ d g k apart stands divergent. divergent)

-- of a group as many items have come, with the same barriers
abbrev pub IsSameGroup : Streams → Streams → ℕ → Type 0
IsSameGroup s t g = (size_of t g ≡ size_of s g) × ((k i : ℕ) → arrivals t g k i ≡ arrivals s g k i)

module _ {s t : Streams} {h h2 : List EventId} {New T : EventId → Type 0} (frame : Frame s t h h2 New T) where
  -- the place of a release that was there stays
  place_grows : (n : Name) (k : ℕ) → release_place s n ≡ Some k → release_place t n ≡ Some k
  place_grows n k at =
      let more = trace_grows s t frame.grows n.at in
      rw (more.1, places_from-append) (slice_get-append (places_from is_release 0 (trace_of s n.at)) _ n.release k at)

  place_shrinks : (n : Name) (x : EventId) → IsIn h x → x.at ≡ n.at → release_place t n ≡ Some x.index → release_place s n ≡ Some x.index
  place_shrinks n x there at place = grind (arith, frame.lawful.event there.0 x there.1, trace_grows s t frame.grows n.at, places_from-within is_release (trace_of s n.at), slice_get_within (trace_of s x.at) x.index)

  module _ (d : EventId) (apart : ¬ T d) where
    name_was : (n : Name) → HasName t d n → HasName s d n
    name_was n named = grind (arith, frame.event d apart)

    name_grows : (n : Name) → HasName s d n → HasName t d n
    name_grows n named = grind (arith, frame.event d apart)

    -- what came before it in its item was handled before
    was_in : (x : EventId) → x.at ≡ d.at → IsIn h2 x → IsIn h x
    was_in x item there = grind (arith, frame.touched x d, frame.split x there)

    pub held_was : (n : Name) → IsHeldUp t h2 d n → IsHeldUp s h d n
    held_was n held = grind (arith, name_was n held.named, held.fresh, frame.old d, was_in, held.previous, held.free, place_grows n, frame.old)

    -- it is held up by each name by which it was, if the release of that name is not new
    pub still_held : (n m : Name) → IsHeldUp t h2 d n → IsHeldUp s h d m
        → ((x : EventId) → New x → x.at ≡ m.at → release_place t m ≡ Some x.index → ⊥) → IsHeldUp t h2 d m
    still_held n m held was old =
        let free : ¬ IsReleaseHandled t h2 m = λ there. grind (arith, was.free, old there.0, frame.split there.0 there.3, place_shrinks m there.0) in
        grind (arith, name_grows m was.named, held.fresh, held.previous)

    module _ (ready : IsReady t h2 d) where
      here : IsEvent s d
      here = (ready.event.0, sym (frame.event d apart) ∙ ready.event.1)

      -- the release of each of its names was handled before or is new
      was_or_new : (n : Name) → HasName s d n → (f : EventId) × MatchesBy t n d f × (IsIn h f ⊎ New f)
      was_or_new n named = let r = ready.release n (name_grows n named) in (r.0, r.1, frame.split r.0 (ready.waits r.0 (for_release (record { name = n; by = r.1 }))))

      matches_was : (n : Name) (f : EventId) → HasName s d n → MatchesBy t n d f → IsIn h f → MatchesBy s n d f
      matches_was n f named m there = grind (arith, place_shrinks n f there m.item m.place, word_grows s t frame.grows d here, word_grows s t frame.grows f, frame.lawful.event there.0 f there.1)

      held_up : (n : Name) → HasName s d n → (f : EventId) → MatchesBy t n d f → New f → IsHeldUp s h d n
      held_up n named f by new = grind (arith, ready.fresh, frame.old d, was_in, ready.waits, place_grows n, same_event f, frame.fresh f new)

      -- it was ready, where the releases that it names were handled before
      waits_was : ((n : Name) → HasName s d n → (f : EventId) × MatchesBy s n d f × IsIn h f) → (x : EventId) → Waits s d x → IsIn h x
      waits_was released x (for_previous p) = was_in x p.item (ready.waits x (for_previous p))
      waits_was released x (for_release match) = grind (arith, released match.name match.by.named, one_release s match.name d)
      waits_was released x (for_arrival a b met p) = grind (arith, not_both s met.group met.instance a met.convergent, frame.divergent d met.group met.instance apart met.first, ready.instance met.group met.instance, stands_grows s t frame.grows d met.group met.instance met.first)
      waits_was released x (for_meeting a c p met) =
          let before = was_in c p.item (ready.waits c (for_previous p)) in
          grind (arith, frame.lawful.together before.0 c x a before.1 met)

      ready_was : ((n : Name) → HasName s d n → (f : EventId) × MatchesBy s n d f × IsIn h f) → IsReady s h d
      ready_was released = record {
        event = here;
        fresh = λ there. ready.fresh (frame.old d there);
        release = λ n named. let r = released n named in (r.0, r.1);
        waits = waits_was released;
        instance = λ g k stands. frame.divergent d g k apart stands (ready.instance g k (stands_grows s t frame.grows d g k stands));
      }

      -- it was ready before, or a name held it up
      pub ready_or_held : IsReady s h d ⊎ ((n : Name) × IsHeldUp s h d n)
      ready_or_held =
          ⊎_elim
          (λ (all : (n : Name) → HasName s d n → (f : EventId) × MatchesBy s n d f × IsIn h f). inl (ready_was all))
          (λ (some : (n : Name) × HasName s d n × IsHeldUp s h d n). inr (some.0, some.2))
          (all_or_some (λ n. (f : EventId) × MatchesBy s n d f × IsIn h f) (IsHeldUp s h d) (names_at s d) (λ n named.
          let r = was_or_new n named in
          ⊎_elim (λ (was : IsIn h r.0). inl (r.0, matches_was n r.0 named r.1 was, was)) (λ (new : New r.0). inr (held_up n named r.0 r.1 new)) r.2))

      -- the release of a name that held it up is new
      pub new_release : (n : Name) → IsHeldUp s h d n → (f : EventId) × MatchesBy t n d f × New f
      new_release n held = grind (arith, was_or_new n held.named, held.free, place_shrinks n)

  module _ (g : ℕ) (same : IsSameGroup s t g) (apart : (x : EventId) → New x → x.at.group ≡ g → ⊥) where
    group_was : (x : EventId) → x.at.group ≡ g → IsIn h2 x → IsIn h x
    group_was x group there = grind (arith, frame.split x there)

    meeting_was : (k : ℕ) (a : Mark) → IsMeeting t h2 g k a → IsMeeting s h g k a
    meeting_was k a meeting = record {
      convergent = (subst (λ n. 0 < n) same.0 meeting.convergent.0, λ i lt. sym (same.1 k i) ∙ meeting.convergent.1 i (subst (λ n. i < n) (sym same.0) lt));
      fresh = λ met. meeting.fresh (met.0, stands_grows s t frame.grows met.0 g k met.1, frame.old met.0 met.2);
      least = λ l b lt c.
          let met = meeting.least l b lt (convergent_grows s t frame.grows g l b c) in
          let was = group_was met.0 met.1.group met.2 in
          (met.0, stands_shrinks s t frame.grows met.0 g l (frame.lawful.event was.0 met.0 was.1).0 met.1, was);
      before = λ b d stands p. group_was d (ap (λ (i : ItemId). i.group) p.item ∙ stands.group) (meeting.before b d (stands_grows s t frame.grows b g k stands) p);
    }

    pub meets_was : CanMeet t h2 g → CanMeet s h g
    meets_was can = (can.0, can.1, meeting_was can.0 can.1 can.2)
