-- Where an event is handled as soon as its record is taken, no step becomes ready: the record is taken, its event is handled, and its item has no other.
use Rattle.gr_model.proofs.Common.{◌≡◌, ◌<◌, ℕ, List, [], ◌∷◌, Option, Some, Vec, refl, sym, ap, subst, inr, arith}
use Rattle.gr_agenda.specs.Types.{Event, EventId, ItemId, Name}
use Rattle.gr_model.specs.Prelude.{is_release, IsIn, release_place, IsEvent, Streams, size_of}
use Rattle.gr_model.proofs.Places.{slice_get-append}
use Rattle.gr_steps.specs.Steps.{CanMeet}
use Rattle.gr_steps.proofs.BarrierPlaces.{barrier_of, barrier_there}
use Rattle.gr_steps.proofs.Orders.{at_behind}
use Rattle.gr_lanes.specs.Takes.{next_of, with_record}
use Rattle.gr_order.specs.AtOnce.{GoesAtOnce}
use Rattle.gr_order.specs.Sequences.{HandlesEvent, IsSequence, Sequence, taking}
use Rattle.gr_order.proofs.AtOnceLemmas.{others_at_once, there_at_once}
use Rattle.gr_agenda.specs.Kept.{AreUndiverged, IsKept}
use Rattle.gr_agenda.specs.Lists.{Steps}
use Rattle.gr_agenda.proofs.Frames.{Frame, frame_event}
use Rattle.gr_agenda.proofs.KeptLemmas.{kept_framed, named_there, passes_there}
use Rattle.gr_agenda.proofs.TakeFrames.{AddsNoMark, divergent_was, other_arrivals, plain_marks, takes_own}
use Rattle.gr_order.proofs.StateLemmas.{item_cases}

module _ {Z : Type 0} (q : Sequence) (is : IsSequence q) (t : Steps) (lists : List (Vec ItemId Z)) (kept : IsKept q t lists) (g : ℕ) (x : Event)
    (go : GoesAtOnce q g x) (q2 : Sequence) (step : HandlesEvent (taking q g x) (next_of q.taken g x) q2) where
  abbrev e : EventId
  e = next_of q.taken g x

  abbrev more : Streams
  more = with_record q.taken g x

  marks : (n : ℕ) → AddsNoMark q.taken more g n
  marks = plain_marks q.taken g x is.prefixes go.can go.access.ends go.access.barrier

  frame : Frame q.taken q2.taken q.handled q2.handled (λ d. d ≡ e) (λ d. d.at ≡ e.at)
  frame = rw (step.taken, step.handles.order) (frame_event (takes_own q.taken g x is.prefixes go.can go.access.ends marks q.handled is.lawful) e
      step.handles.ready.fresh (λ d same. same))

  -- after both steps all events of the item are handled
  all_handled : (d : EventId) → d.at ≡ e.at → IsEvent q2.taken d → IsIn q2.handled d
  all_handled d own = rw (step.taken, step.handles.order) (λ there. grind (arith, go.first d own, slice_get-append q.handled (e ∷ []), at_behind q.handled (e ∷ []) 0 d, others_at_once q.taken g x is.prefixes go.can go.access.ends d own there))

  -- so the group can't meet
  no_meeting : CanMeet q2.taken q2.handled g → ⊥
  no_meeting can =
      let b = barrier_of q2.taken g can.0 can.1 can.2.convergent x.item (subst (λ (s : Streams). x.item < size_of s g) (sym step.taken) go.can.item) in
      let d : EventId = record { at = e.at; index = b.0 } in
      can.2.fresh (d, b.1, all_handled d refl (grind (arith, barrier_there q2.taken d g can.0 b.1)))

  -- and nobody waits for the event
  no_release : (n : Name) (d : EventId) → d ≡ e → d.at ≡ n.at → release_place q2.taken n ≡ Some d.index → ⊥
  no_release n d new at = rw step.taken (λ place. grind (arith, passes_there more is_release e, there_at_once q.taken g x is.prefixes go.can go.access.ends))

  pub kept_at_once : (undiverged : List (Option ℕ)) → AreUndiverged q.taken undiverged → IsKept q2 t lists × AreUndiverged q2.taken undiverged
  kept_at_once undiverged are = (
    kept_framed t t kept (λ r has. has) frame (λ d. item_cases d.at e.at) (λ d own goes. absurd (grind (arith, all_handled d own, named_there q2.taken d))) g
        (λ can. absurd (no_meeting can)) (λ n apart. rw step.taken (refl, other_arrivals q.taken g x is.prefixes go.can n apart))
        (λ d new. ap (λ (y : EventId). y.at.group) new) (λ n. inr (no_release n)) lists (λ n i waits. inr waits),
    rw step.taken (λ h k told divergent. are h k told (divergent_was q.taken g x is.prefixes go.can go.access.ends h k (marks k) divergent)),
  )
