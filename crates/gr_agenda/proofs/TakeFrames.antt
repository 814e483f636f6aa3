-- What a record that is taken changes: an item or a group that it does not touch can go on only as before.
use Rattle.gr_model.proofs.Common.{is_some, length, ◌≡◌, ◌<◌, ℕ, List, [], ◌∷◌, ◌++◌, true, false, Some, Option, Vec, ◌⊎◌, ◌≤◌, refl, sym, ap, ◌∙◌, inl, inr, ⊎_elim, filter, filter_map, slice_get, arith, append-nil, true≢false, cases_eq, cases_lt, filter_map-append, slice_get_within, gets, common_steps}
use Rattle.gr_model.proofs.Sending.{is_complete-push}
use Rattle.gr_agenda.specs.Types.{Kind, Event, EventId, ItemId, Group, Item}
use Rattle.gr_model.specs.Prelude.{HasArrived, Mark, IsDivergent, arrivals, is_barrier, mark_of, mark_of_kind, is_end, is_end_kind, IsIn, IsLawful, ArePrefixes, Streams, event_at, is_complete, is_of, list_of, place_of, size_of, trace_of}
use Rattle.gr_lanes.specs.Takes.{CanTake, next_of, with_record}
use Rattle.gr_lanes.proofs.Growth.{here, other, record_grows}
use Rattle.gr_lanes.proofs.IndexLemmas.{length-places, no_trace, places_more}
use Rattle.gr_lanes.proofs.InstanceLemmas.{some_mark}
use Rattle.gr_steps.proofs.Orders.{at_behind, split_last}
use Rattle.gr_order.proofs.StateLemmas.{item_cases}
use Rattle.gr_order.proofs.WaitLemmas.{adds_here, adds_none, trace_grows}
use Rattle.gr_model.proofs.Cuts.{same_event}
use Rattle.gr_steps.specs.Steps.{CanMeet, IsReady}
use Rattle.gr_agenda.proofs.Frames.{Frame, frame_taken, meets_was}
use Rattle.gr_agenda.proofs.KeptLemmas.{Goes, items_of, kept_framed}
use Rattle.gr_agenda.specs.Kept.{AreUndiverged, IsForgotten, IsKept, IsPending, IsTold}
use Rattle.gr_agenda.specs.Lists.{Has, KeepsSteps, Steps}
use Rattle.gr_order.proofs.AtOnceLemmas.{there_at_once}
use Rattle.gr_order.proofs.ForgetLemmas.{unhandled_remembered}
use Rattle.gr_order.specs.Forgetting.{ForgetsHandled}
use Rattle.gr_lanes.specs.Remembered.{Remembered, forgotten_of}
use Rattle.gr_order.specs.Sequences.{IsSequence, Sequence, taking}
use Rattle.gr_steps.proofs.EventRecords.{barriers_name_nothing}
use Rattle.gr_agenda.specs.Reaches.{IsFollowing, next_instance}

-- ---- marks

-- where an item of the group comes to the instance with a mark in t, some item came with it in s
abbrev pub AddsNoMark : Streams → Streams → ℕ → ℕ → Type 0
AddsNoMark s t g n = (i : ℕ) (a : Mark) → HasArrived (size_of s g) (arrivals t g n) i a → (j : ℕ) × HasArrived (size_of s g) (arrivals s g n) j a

-- a barrier is no end
pub barrier_goes_on : (kind : Kind) (word : ℕ) → is_some (mark_of_kind kind word) ≡ true → is_end_kind kind ≡ false
barrier_goes_on kind word b = grind arith

count_marks : (xs : List Event) → length (filter_map mark_of xs) ≡ length (filter is_barrier xs)
count_marks [] = refl
count_marks (x ∷ xs) = grind (arith, count_marks xs)

get_before : {X : Type 0} (xs : List X) (x : X) (k : ℕ) → (k ≡ length xs → ⊥) → slice_get (xs ++ x ∷ []) k ≡ slice_get xs k
get_before xs x k apart = grind (arith, common_steps, gets)

-- ---- one record more of a group

module _ (s : Streams) (g : ℕ) (x : Event) (prefixes : ArePrefixes s) (can : CanTake s g x) where
  abbrev more : Streams
  more = with_record s g x

  other_trace : (i : ItemId) → (i.group ≡ g → ⊥) → trace_of more i ≡ trace_of s i
  other_trace i apart = ap (λ (l : List Event). filter (is_of i.item) l) (other s g x prefixes can i.group apart)

  pub other_divergent : (k n : ℕ) → (k ≡ g → ⊥) → IsDivergent more k n → IsDivergent s k n
  other_divergent k n apart divergent = rw (other s g x prefixes can k apart) at divergent

  pub other_arrivals : (n : ℕ) → (n ≡ g → ⊥) → (k i : ℕ) → arrivals more n k i ≡ arrivals s n k i
  other_arrivals n apart k i = grind (arith, other_trace (record { group = n; item = i }) apart)

  -- it touches at most the items of its group
  pub takes_wide : (h : List EventId) → IsLawful s h → Frame s more h h (λ x. ⊥) (λ d. d.at.group ≡ g)
  takes_wide h lawful = frame_taken s more h (λ d. d.at.group ≡ g) (record_grows s g x prefixes can) lawful
      (λ d apart. ap (λ (l : List Event). slice_get l d.index) (other_trace d.at apart))
      (λ d k n apart stands. other_divergent k n (λ same. apart (stands.group ∙ same)))

  -- and where it is no end, and no mark comes to an instance with which none came before, only its own
  module _ (ends : is_end x ≡ false) where
    abbrev own : ItemId
    own = record { group = g; item = x.item }

    not_complete : is_complete (list_of more g) ≡ false
    not_complete = grind (arith, here s g x prefixes can, is_complete-push)

    own_trace : (i : ItemId) → (i ≡ own → ⊥) → trace_of more i ≡ trace_of s i
    own_trace i apart = grind (arith, trace_grows s g x prefixes can i, adds_none g x i apart, append-nil)

    here_was : (n : ℕ) → AddsNoMark s more g n → IsDivergent more g n → IsDivergent s g n
    here_was n marks (inl (i, j, a, b, ha, hb, differ)) = let first = marks i a ha in let second = marks j b hb in inl
        (first.0, second.0, a, b, first.1, second.1, differ)
    here_was n marks (inr missing) = absurd (true≢false (sym missing.0 ∙ not_complete))

    pub divergent_was : (k n : ℕ) → AddsNoMark s more g n → IsDivergent more k n → IsDivergent s k n
    divergent_was k n marks divergent = ⊎_elim (λ (same : k ≡ g). rw same (here_was n marks (rw same at divergent)))
        (λ apart. other_divergent k n apart divergent) (cases_eq k g)

    pub takes_own : ((n : ℕ) → AddsNoMark s more g n) → (h : List EventId) → IsLawful s h → Frame s more h h (λ x. ⊥) (λ d. d.at ≡ own)
    takes_own marks h lawful = frame_taken s more h (λ d. d.at ≡ own) (record_grows s g x prefixes can) lawful
        (λ d apart. ap (λ (l : List Event). slice_get l d.index) (own_trace d.at apart)) (λ d k n apart stands. divergent_was k n (marks n))

    -- a record that is no barrier brings no mark
    module _ (plain : is_barrier x ≡ false) where
      same_arrival : (n i : ℕ) → arrivals more g n i ≡ arrivals s g n i
      same_arrival n i = grind (arith, trace_grows s g x prefixes can (record { group = g; item = i }), filter_map-append, append-nil)

      pub plain_marks : (n : ℕ) → AddsNoMark s more g n
      plain_marks n i a arrived = grind (arith, same_arrival)

      -- no instance of the group may meet now that might not before
      pub own_meets : (h : List EventId) → IsLawful s h → CanMeet more h g → CanMeet s h g
      own_meets h lawful = meets_was (takes_own plain_marks h lawful) g (refl, same_arrival) (λ x new group. new)

    -- a barrier brings a mark to one instance alone
    module _ (barrier : is_barrier x ≡ true) where
      abbrev brought : ℕ
      brought = next_instance s g x.item

      abbrev e : EventId
      e = next_of s g x

      own_longer : trace_of more own ≡ trace_of s own ++ x ∷ []
      own_longer = grind (arith, trace_grows s g x prefixes can own, adds_here g x ends)

      arrival_cases : (n i : ℕ) (a : Mark) → arrivals more g n i ≡ Some a → (arrivals s g n i ≡ Some a) ⊎ ((n ≡ brought) × (mark_of x ≡ Some a))
      arrival_cases n i a arrived = grind (arith, own_longer, filter_map-append, split_last, own, some_mark (mark_of x) barrier, count_marks, own_trace (record { group = g; item = i }))

      pub own_place : place_of more is_barrier own brought ≡ Some e.index
      own_place = grind (arith, own_longer, places_more, length-places, at_behind, common_steps, gets)

      -- where that is not divergent then, only the barrier is new
      module _ (undiverged : ¬ IsDivergent more g brought) where
        else_divergent : (k n : ℕ) → IsDivergent more k n → IsDivergent s k n
        else_divergent k n divergent = ⊎_elim
            (λ (same : n ≡ brought). other_divergent k n (λ own. undiverged (rw (own, same) at divergent)) divergent)
            (λ apart. divergent_was k n (λ i a arrived. (i, (arrived.0, ⊎_elim (λ was. was) (λ new. absurd (apart new.0)) (arrival_cases n i a arrived.1)))) divergent)
            (cases_eq n brought)

        last_event : (d : EventId) → (d ≡ e → ⊥) → event_at more d ≡ event_at s d
        last_event d apart = grind (arith, own, more, own_longer, get_before, same_event, e, own_trace, item_cases)

        pub takes_last : (h : List EventId) → IsLawful s h → Frame s more h h (λ x. ⊥) (λ d. d ≡ e)
        takes_last h lawful = frame_taken s more h (λ d. d ≡ e) (record_grows s g x prefixes can) lawful last_event (λ d k n apart stands. else_divergent k n)

        -- which can't be handled
        pub last_stuck : (h : List EventId) → IsReady more h e → ⊥
        last_stuck h ready = undiverged (ready.instance g brought (record { group = refl; item = can.item; place = own_place }))

    -- a barrier that follows another of its instance brings the mark of that
    pub following_marks : IsFollowing s g x → (n : ℕ) → AddsNoMark s more g n
    following_marks follows n i a arrived = grind (arith, cases_lt follows.other (size_of s g), no_trace (size_of s g) (list_of s g) (prefixes.each g can.group) follows.other, some_mark (mark_of x) follows.barrier, arrival_cases follows.barrier n i a, follows.came)

-- ---- a record is taken

-- the instance to which a barrier brings its item is not forgotten, since the barrier was not handled
pub own_remembered : (q : Sequence) → IsSequence q → (g : ℕ) (x : Event) → CanTake q.taken g x → is_barrier x ≡ true → (k : ℕ)
    → k ≡ next_instance q.taken g x.item → (r : Remembered) → r.streams ≡ with_record q.taken g x → ForgetsHandled r q.handled → forgotten_of r g ≤ k
own_remembered q is g x can barrier k next r streams forgets = unhandled_remembered r q.handled forgets e out k place
  where
    e : EventId
    e = next_of q.taken g x

    place : place_of r.streams is_barrier e.at k ≡ Some e.index
    place = grind (arith, e, own_place, barrier_goes_on)

    out : ¬ IsIn q.handled e
    out there = grind (arith, there, e, slice_get_within, is.lawful.event there.0 e there.1)

module _ {Z : Type 0} {q : Sequence} {t : Steps} {lists : List (Vec ItemId Z)} (is : IsSequence q) (kept : IsKept q t lists)
    (undiverged : List (Option ℕ)) (are : AreUndiverged q.taken undiverged) (g : ℕ) (x : Event) (can : CanTake q.taken g x) (t2 : Steps)
    (keeps : KeepsSteps t t2) where
  abbrev longer : Streams
  longer = with_record q.taken g x

  abbrev next : EventId
  next = next_of q.taken g x

  kept_took : {T : EventId → Type 0} → Frame q.taken longer q.handled q.handled (λ x. ⊥) T → ((d : EventId) → T d ⊎ (T d → ⊥))
      → ((d : EventId) → T d → Goes (taking q g x) d → Has t2 (Item d.at)) → (CanMeet longer q.handled g → Has t2 (Group g))
      → IsKept (taking q g x) t2 lists
  kept_took frame decided items group = kept_framed t t2 kept keeps frame decided items g group
      (λ n apart. (refl, other_arrivals q.taken g x is.prefixes can n apart)) (λ x new. absurd new) (λ n. inr (λ x new at place. new)) lists
      (λ n i waits. inr waits)

  pub took_wide : (new : List (Option ℕ)) → IsForgotten undiverged g new → Has t2 (Group g) → ArePrefixes longer
      → ((i : ℕ) → i < size_of q.taken g → IsPending (taking q g x) (record { group = g; item = i }) → Has t2 (Item (record { group = g; item = i })))
      → IsKept (taking q g x) t2 lists × AreUndiverged longer new
  took_wide new forgotten group prefixes items = (
    kept_took (takes_wide q.taken g x is.prefixes can q.handled is.lawful) (λ d. cases_eq d.at.group g) (items_of (taking q g x) prefixes g t2 items) (λ can. group),
    λ h k told divergent. grind (arith, forgotten.none k, forgotten.others h k told, are h k, other_divergent q.taken g x is.prefixes can h k, cases_eq h g),
  )

  took_own : is_end x ≡ false → ((n : ℕ) → AddsNoMark q.taken longer g n) → Has t2 (Item next.at) → (CanMeet longer q.handled g → Has t2 (Group g))
      → IsKept (taking q g x) t2 lists × AreUndiverged longer undiverged
  took_own ends marks item group = (
    kept_took (takes_own q.taken g x is.prefixes can ends marks q.handled is.lawful) (λ d. item_cases d.at next.at) (λ d own goes. rw own item) group,
    λ h k told divergent. are h k told (divergent_was q.taken g x is.prefixes can ends h k (marks k) divergent),
  )

  pub took_plain : is_barrier x ≡ false → is_end x ≡ false → Has t2 (Item next.at) → IsKept (taking q g x) t2 lists × AreUndiverged longer undiverged
  took_plain plain ends item = took_own ends (plain_marks q.taken g x is.prefixes can ends plain) item
      (λ meets. keeps (Group g) (kept.ready (Group g) (own_meets q.taken g x is.prefixes can ends plain q.handled is.lawful meets)))

  pub took_following : IsFollowing q.taken g x → Has t2 (Group g) → Has t2 (Item next.at) → IsKept (taking q g x) t2 lists × AreUndiverged longer undiverged
  took_following follows group item = search (arith, barrier_goes_on, took_own, following_marks)

  -- a barrier that leaves its instance not divergent can't go on by itself, and lets no other item go on
  pub took_undiverged : is_barrier x ≡ true → (k : ℕ) → k ≡ next_instance q.taken g x.item → ArePrefixes longer → ¬ IsDivergent longer g k
      → Has t2 (Group g) → (new : List (Option ℕ)) → IsTold undiverged g k new → IsKept (taking q g x) t2 lists × AreUndiverged longer new
  took_undiverged barrier k same prefixes not_divergent group new tells = (
    kept_took (takes_last q.taken g x is.prefixes can ends barrier still q.handled is.lawful) (λ d. grind arith) stuck (λ meets. group),
    λ h n told divergent. grind (arith, tells.own n, tells.others h n, are h n, other_divergent q.taken g x is.prefixes can h n, cases_eq h g),
  )
    where
      ends : is_end x ≡ false
      ends = barrier_goes_on x.kind x.word barrier

      still : ¬ IsDivergent longer g (next_instance q.taken g x.item)
      still = rw (← same) not_divergent

      stuck : (d : EventId) → d ≡ next → Goes (taking q g x) d → Has t2 (Item d.at)
      stuck d same (inl ready) = absurd (last_stuck q.taken g x is.prefixes can ends barrier still q.handled (rw same at ready))
      stuck d same (inr (n, held)) = absurd (grind (arith, held.named, there_at_once q.taken g x is.prefixes can ends, barriers_name_nothing longer prefixes next x n))

  -- so it is with one that follows another, where its instance was known not to be divergent
  pub took_told : IsFollowing q.taken g x → (k : ℕ) → k ≡ next_instance q.taken g x.item → ArePrefixes longer → slice_get undiverged g ≡ Some (Some k)
      → Has t2 (Group g) → IsKept (taking q g x) t2 lists × AreUndiverged longer undiverged
  took_told follows k same prefixes told group = took_undiverged follows.barrier k same prefixes still group undiverged
      (record { own = λ n at. cc; others = λ h n apart at. at })
    where
      still : ¬ IsDivergent longer g k
      still divergent = are g k told (divergent_was q.taken g x is.prefixes can (barrier_goes_on x.kind x.word follows.barrier) g k
          (following_marks q.taken g x is.prefixes can (barrier_goes_on x.kind x.word follows.barrier) follows k) divergent)
