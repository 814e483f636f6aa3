-- What is so of the list of steps and of those that wait where a group comes: no step may be made that could not be.
use Rattle.gr_model.proofs.Common.{◌≡◌, ℕ, List, [], arith, Vec, filter_map, slice_get, None, Option, ap, inr, ⊎_elim, cases_eq}
use Rattle.gr_agenda.specs.Types.{Event, ItemId, Name}
use Rattle.gr_model.specs.Prelude.{IsDivergent, arrivals, mark_of, CanAdd, IsLawful, ArePrefixes, Streams, list_of, trace_of}
use Rattle.gr_model.specs.Groups as model
use Rattle.gr_model.proofs.GroupLaws.{group_grows, list_stays, nothing_came, size_stays}
use Rattle.gr_steps.specs.Steps.{CanMeet}
use Rattle.gr_order.specs.Sequences.{Sequence, with_group}
use Rattle.gr_agenda.specs.Kept.{AreUndiverged, IsKept}
use Rattle.gr_agenda.specs.Lists.{IsWaiting, Steps}
use Rattle.gr_agenda.proofs.Frames.{Frame, IsSameGroup, frame_taken}
use Rattle.gr_agenda.proofs.KeptLemmas.{kept_framed}

-- ---- a group comes

module _ (q : Sequence) (g n : ℕ) (prefixes : ArePrefixes q.taken) (lawful : IsLawful q.taken q.handled) (can : CanAdd q.taken g n) where
  abbrev more : Streams
  more = model.with_group q.taken g n

  same_trace : (i : ItemId) → trace_of more i ≡ trace_of q.taken i
  same_trace i = grind (arith, list_stays q.taken g n i.group)

  nothing : list_of more g ≡ []
  nothing = grind (arith, list_stays q.taken g n g, nothing_came q.taken g n prefixes can)

  nobody : (k i : ℕ) → arrivals more g k i ≡ None
  nobody k i = grind (arith, nothing)

  -- no instance of the new group is divergent
  not_divergent : (k : ℕ) → IsDivergent more g k → ⊥
  not_divergent k h = grind (arith, nobody, nothing)

  divergent_was : (h k : ℕ) → IsDivergent more h k → IsDivergent q.taken h k
  divergent_was h k divergent = ⊎_elim
      (λ (same : h ≡ g). absurd (not_divergent k (rw same at divergent)))
      (λ apart. rw (list_stays q.taken g n h, size_stays q.taken g n h apart) at divergent)
      (cases_eq h g)

  frame : Frame q.taken more q.handled q.handled (λ x. ⊥) (λ d. ⊥)
  frame = frame_taken q.taken more q.handled (λ d. ⊥) (group_grows q.taken g n prefixes can) lawful
      (λ d apart. ap (λ (l : List Event). slice_get l d.index) (same_trace d.at)) (λ d h k apart stands. divergent_was h k)

  pub kept_with_group : {Z : Type 0} (t : Steps) (lists lists2 : List (Vec ItemId Z)) (undiverged : List (Option ℕ)) → IsKept q t lists × AreUndiverged q.taken undiverged
      → ((m : Name) (i : ItemId) → IsWaiting lists m i → IsWaiting lists2 m i) → IsKept (with_group q g n) t lists2 × AreUndiverged more undiverged
  kept_with_group t lists lists2 undiverged (kept, are) wider = (
    kept_framed t t kept (λ r has. has) frame (λ d. inr (λ e. e)) (λ d own. absurd own) g (λ can. absurd (no_meeting can)) stays (λ x new. absurd new)
        (λ m. inr (λ x new at place. new)) lists2 (λ m i waits. inr (wider m i waits)),
    λ h k at divergent. are h k at (divergent_was h k divergent),
  )
    where
      no_meeting : CanMeet more q.handled g → ⊥
      no_meeting can = grind (arith, nobody, can.2.convergent)

      stays : (h : ℕ) → (h ≡ g → ⊥) → IsSameGroup q.taken more h
      stays h apart = (size_stays q.taken g n h apart, λ k i. ap (λ (l : List Event). slice_get (filter_map mark_of l) k) (same_trace (record { group = h; item = i })))
