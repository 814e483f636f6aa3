-- The list of steps has all that is ready, after each step and each record.
use Rattle.gr_model.proofs.Common.{◌≡◌, ◌⊎◌, ◌<◌, ℕ, List, [], Bool, true, Some, Option, Vec, refl, sym, ap, ◌∙◌, subst, inl, inr, ⊎_elim, arith, is_some, cases_eq}
use Rattle.std.proofs.Math.ListN.{get_or-map}
use Rattle.gr_agenda.specs.Types.{Event, EventId, ItemId, Kind, Name, Ready, Item, Group}
use Rattle.gr_model.specs.Prelude.{is_release_kind, StandsIn, mark_of_kind, IsIn, HasName, release_place, ArePrefixes, IsEvent, Streams, event_at, place_of, size_of, trace_of}
use Rattle.gr_lanes.specs.Takes.{nothing_taken}
use Rattle.gr_model.proofs.Places.{places_from-there}
use Rattle.gr_steps.specs.Steps.{CanMeet, IsReady}
use Rattle.gr_steps.proofs.BarrierPlaces.{barrier_of, barrier_there}
use Rattle.gr_steps.proofs.EventRecords.{item_of_event}
use Rattle.gr_order.proofs.StateLemmas.{item_cases}
use Rattle.gr_order.specs.Answers.{CanMake}
use Rattle.gr_order.specs.Sequences.{HandlesEvent, IsSequence, MeetsInstance, Sequence, nothing}
use Rattle.gr_agenda.specs.Kept.{IsHeldUp, IsKept, IsNoted, IsPending}
use Rattle.gr_agenda.specs.Lists.{Has, IsWaiting, KeepsSteps, Steps}
use Rattle.gr_agenda.proofs.Frames.{Frame, IsSameGroup, frame_event, frame_more, frame_same, held_was, meets_was, new_release, ready_or_held, still_held}

-- the place of an event that passes a test is that of such an event
pub passes_there : (s : Streams) (test : Event → Bool) (e : EventId) (k : ℕ) → place_of s test e.at k ≡ Some e.index → (x : Event) × (event_at s e ≡ Some x) × (test x ≡ true)
passes_there s test e k place = grind (arith, places_from-there test 0 (trace_of s e.at) k e.index place)

-- an event that has a name is there
pub named_there : (s : Streams) (d : EventId) (n : Name) → HasName s d n → IsEvent s d
named_there s d n named = grind arith

-- a barrier is no release
not_both : (kind : Kind) (word : ℕ) → is_some (mark_of_kind kind word) ≡ true → is_release_kind kind ≡ true → ⊥
not_both kind word b r = grind arith

-- ---- a step that touches one group

-- an event can be handled, or a name holds it up
abbrev pub Goes : Sequence → EventId → Type 0
Goes q d = IsReady q.taken q.handled d ⊎ ((n : Name) × IsHeldUp q.taken q.handled d n)

-- if each item of a group that may go on is in the list, each of its events is
pub items_of : (q : Sequence) → ArePrefixes q.taken → (g : ℕ) (t : Steps)
    → ((i : ℕ) → i < size_of q.taken g → IsPending q (record { group = g; item = i }) → Has t (Item (record { group = g; item = i })))
    → (d : EventId) → d.at.group ≡ g → Goes q d → Has t (Item d.at)
items_of q prefixes g t items d own goes = grind (arith, named_there q.taken d, item_of_event q.taken prefixes d, items d.at.item)

-- each event that the step touches is in the list, if it can go on, and so is its group; and so are those that wait for the release of a
-- name, or that release is not new
module _ {Z : Type 0} {q q2 : Sequence} (t t2 : Steps) {lists : List (Vec ItemId Z)} {New T : EventId → Type 0} (kept : IsKept q t lists)
    (keeps : KeepsSteps t t2) (frame : Frame q.taken q2.taken q.handled q2.handled New T)
    (decided : (d : EventId) → T d ⊎ (T d → ⊥)) (items : (d : EventId) → T d → Goes q2 d → Has t2 (Item d.at))
    (g : ℕ) (group : CanMeet q2.taken q2.handled g → Has t2 (Group g)) (stays : (n : ℕ) → (n ≡ g → ⊥) → IsSameGroup q.taken q2.taken n)
    (of_group : (x : EventId) → New x → x.at.group ≡ g)
    (releases : (n : Name) → ((i : ItemId) → IsWaiting lists n i → Has t2 (Item i)) ⊎ ((x : EventId) → New x → x.at ≡ n.at
    → release_place q2.taken n ≡ Some x.index → ⊥)) where
  -- what is ready after the step and was held up before has been woken
  woken : (d : EventId) → ¬ T d → IsReady q2.taken q2.handled d → (n : Name) → IsHeldUp q.taken q.handled d n → Has t2 (Item d.at)
  woken d apart ready n held = ⊎_elim
      (keeps (Item d.at))
      (λ (noted : IsNoted q.taken q.handled lists d).
      let new = new_release frame d apart ready noted.0 noted.1 in
      ⊎_elim (λ wakes. wakes d.at noted.2) (λ old. absurd (old new.0 new.2 new.1.item new.1.place)) (releases noted.0))
      (kept.waits d n held)

  framed_ready : (r : Ready) → CanMake q2 r → Has t2 r
  framed_ready (Item i) can = rw (← can.1) (⊎_elim
      (λ own. items can.0 own (inl can.2))
      (λ apart. ⊎_elim (λ was. keeps (Item can.0.at) (kept.ready (Item can.0.at) (can.0, refl, was))) (λ held. woken can.0 apart can.2 held.0 held.1)
      (ready_or_held frame can.0 apart can.2))
      (decided can.0))
  framed_ready (Group n) can = ⊎_elim
      (λ (same : n ≡ g). rw same (group (rw same at can)))
      (λ apart. keeps (Group n) (kept.ready (Group n) (meets_was frame n (stays n apart) (λ x new own. apart (sym own ∙ of_group x new)) can)))
      (cases_eq n g)

  module _ (lists2 : List (Vec ItemId Z)) (others : (n : Name) (i : ItemId) → IsWaiting lists n i → Has t2 (Item i) ⊎ IsWaiting lists2 n i) where
    framed_waits : (d : EventId) (n : Name) → IsHeldUp q2.taken q2.handled d n → Has t2 (Item d.at) ⊎ IsNoted q2.taken q2.handled lists2 d
    framed_waits d n held = ⊎_elim
        (λ own. inl (items d own (inr (n, held))))
        (λ apart. ⊎_elim
        (λ (has : Has t (Item d.at)). inl (keeps (Item d.at) has))
        (λ (noted : IsNoted q.taken q.handled lists d). ⊎_elim
        (λ wakes. inl (wakes d.at noted.2))
        (λ old. ⊎_elim inl (λ waits. inr (noted.0, still_held frame d apart n noted.0 held noted.1 old, waits)) (others noted.0 d.at noted.2))
        (releases noted.0))
        (kept.waits d n (held_was frame d apart n held)))
        (decided d)

    pub kept_framed : IsKept q2 t2 lists2
    kept_framed = record { ready = framed_ready; waits = framed_waits }

-- ---- events are handled

place_cases : (i j : ItemId) (o : Option ℕ) (k : ℕ) → ((i ≡ j) × (o ≡ Some k)) ⊎ ((i ≡ j) × (o ≡ Some k) → ⊥)
place_cases i j o k = grind arith

module _ {Z : Type 0} (q : Sequence) (is : IsSequence q) (t t2 : Steps) (lists lists2 : List (Vec ItemId Z)) (kept : IsKept q t lists)
    (keeps : KeepsSteps t t2) (q2 : Sequence) where
  pub kept_handled : (e : EventId) → HandlesEvent q e q2 → Has t2 (Item e.at)
      → (CanMeet q2.taken q2.handled e.at.group → e.at.item < size_of q2.taken e.at.group → Has t2 (Group e.at.group))
      → ((n : Name) (i : ItemId) → IsWaiting lists n i → Has t2 (Item i) ⊎ IsWaiting lists2 n i)
      → ((n : Name) → n.at ≡ e.at → release_place q.taken n ≡ Some e.index → (i : ItemId) → IsWaiting lists n i → Has t2 (Item i)) → IsKept q2 t2 lists2
  kept_handled e step item group others woken =
      kept_framed t t2 kept keeps frame (λ d. item_cases d.at e.at) (λ d own goes. subst (λ i. Has t2 (Item i)) (sym own) item) e.at.group
      (λ can. group can (rw step.taken (item_of_event q.taken is.prefixes e step.handles.ready.event.0 step.handles.ready.event.1))) (λ n apart. rw step.taken (refl, λ k i. refl)) (λ x new. ap (λ (y : EventId). y.at.group) new)
      releases lists2 others
    where
      frame : Frame q.taken q2.taken q.handled q2.handled (λ x. x ≡ e) (λ d. d.at ≡ e.at)
      frame = rw (step.taken, step.handles.order) (frame_event (frame_same q.taken q.handled (λ d. d.at ≡ e.at) is.lawful) e step.handles.ready.fresh (λ d same. same))

      releases : (n : Name) → ((i : ItemId) → IsWaiting lists n i → Has t2 (Item i)) ⊎ ((x : EventId) → x ≡ e → x.at ≡ n.at → release_place q2.taken n ≡ Some x.index → ⊥)
      releases n = rw step.taken (⊎_elim
          (λ (this : (n.at ≡ e.at) × (release_place q.taken n ≡ Some e.index)). inl (woken n this.0 this.1))
          (λ another. inr (λ x new at place. another (rw new at (sym at), rw new at place)))
          (place_cases n.at e.at (release_place q.taken n) e.index))

  pub kept_met : (g k : ℕ) → MeetsInstance q g k q2 → Has t2 (Group g)
      → ((i : ℕ) → i < size_of q2.taken g → IsPending q2 (record { group = g; item = i }) → Has t2 (Item (record { group = g; item = i })))
      → IsKept q2 t2 lists
  kept_met g k met group items =
      kept_framed t t2 kept keeps frame (λ d. cases_eq d.at.group g) (items_of q2 (rw met.taken is.prefixes) g t2 items) g (λ can. group)
      (λ n apart. rw met.taken (refl, λ k i. refl)) (λ x new. (stands x new).group) (λ n. inr (λ x new at. rw met.taken (λ place. grind (arith, barrier_there, stands, passes_there, not_both)))) lists
      (λ n i waits. inr waits)
    where
      stands : (x : EventId) → IsIn met.meets.barriers x → StandsIn q.taken x g k
      stands x there = (met.meets.are.each there.0 x there.1).1

      frame : Frame q.taken q2.taken q.handled q2.handled (IsIn met.meets.barriers) (λ d. d.at.group ≡ g)
      frame = rw (met.taken, met.meets.order) (frame_more (frame_same q.taken q.handled (λ d. d.at.group ≡ g) is.lawful) met.meets.barriers
          (λ x new there. met.meets.meeting.fresh (x, stands x new, there))
          (λ x d new same. ap (λ (i : ItemId). i.group) (sym same) ∙ (stands x new).group))

-- ---- a step is looked at that can't be made

pub kept_looked : {Z : Type 0} (q : Sequence) (t t2 : Steps) (lists lists2 : List (Vec ItemId Z)) (step : Ready) → IsKept q t lists → ¬ CanMake q step
    → ((r : Ready) → Has t r → (r ≡ step → ⊥) → Has t2 r)
    → ((n : Name) (i : ItemId) → IsWaiting lists n i → IsWaiting lists2 n i)
    → ((d : EventId) (n : Name) → IsHeldUp q.taken q.handled d n → Item d.at ≡ step → Has t2 (Item d.at) ⊎ IsNoted q.taken q.handled lists2 d)
    → IsKept q t2 lists2
kept_looked {Z} q t t2 lists lists2 step kept can't less more noted = record {
  ready = λ r can. less r (kept.ready r can) (λ same. can't (rw same at can));
  waits = λ d n held. ⊎_elim
      (λ (same : Item d.at ≡ step). noted d n held same)
      (λ (apart : Item d.at ≡ step → ⊥). ⊎_elim
      (λ (has : Has t (Item d.at)). inl (less (Item d.at) has apart))
      (λ (noted : IsNoted q.taken q.handled lists d). inr (noted.0, noted.1, more noted.0 d.at noted.2))
      (kept.waits d n held))
      (grind arith);
}

-- ---- nothing was taken

none_there : (sizes : List ℕ) (e : EventId) → IsEvent (nothing_taken sizes) e → ⊥
none_there sizes e there = grind (arith, e, get_or-map {B = List Event} (λ (n : ℕ). []) sizes e.at.group 0)

pub kept_nothing : {Z : Type 0} (sizes : List ℕ) (q : Sequence) → q ≡ nothing sizes → (t : Steps) (lists : List (Vec ItemId Z)) → IsKept q t lists
kept_nothing {Z} sizes q is t lists = subst {A = Sequence} (λ p. IsKept p t lists) (sym is) (record { ready = none_ready; waits = λ d n held. absurd (none_there sizes d (named_there (nothing_taken sizes) d n held.named)) })
  where
    none_ready : (r : Ready) → CanMake (nothing sizes) r → Has t r
    none_ready (Item i) can = absurd (none_there sizes can.0 can.2.event)
    none_ready (Group g) can =
        let b = barrier_of (nothing_taken sizes) g can.0 can.1 can.2.convergent 0 can.2.convergent.0 in
        let there = barrier_there (nothing_taken sizes) (record { at = record { group = g; item = 0 }; index = b.0 }) g can.0 b.1 in
        absurd (none_there sizes (record { at = record { group = g; item = 0 }; index = b.0 }) (there.0, there.1))
