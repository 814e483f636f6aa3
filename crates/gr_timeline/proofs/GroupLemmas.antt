-- What is known of the events of a group, with one record more, and of those of all groups below a bound.
use Rattle.gr_model.proofs.Common.{◌≡◌, ℕ, ◌+◌, ◌<◌, Bool, true, false, List, [], ◌∷◌, ◌++◌, length, filter, slice_get, refl, ap, ◌∙◌, arith, if◌then◌else◌, Some, option_map, sym, ◌≢◌, ◌≤◌, ◌==◌, not, Option, None, take, subst, inl, inr, ⊎_elim, eqb-true, true≢false, get_or, filter-append, common_steps, gets, is_some, slice_get-get_or, slice_get_past, slice_get_read, slice_get_within, length_push, take-append-le, length-take-le, take_more, take-append_seam, and_parts, cases_Bool, cases_eq, cases_lt, eq-eqb, false_from_ne_true}
use Rattle.gr_timeline.specs.Types.{Event, MOST_RECORDS, Count, EventId, Word, Details}
use Rattle.gr_model.specs.Prelude.{is_of, list_of, places_from, trace_of, IsAccepted, IsEvent, Streams, is_barrier, event_word, word_if_access, is_end, is_end_kind}
use Rattle.gr_model.proofs.ListsOfRecords.{length-filter_le}
use Rattle.gr_lanes.proofs.IndexLemmas.{filter_more, length-places, places_more}
use Rattle.gr_timeline.specs.Counting.{AreCounts, IsSmall, after_record, counted}
use Rattle.gr_model.specs.declared.event.Kind.{Kind}
use Rattle.gr_timeline.specs.Accesses.{details_at, IsKnown}
use Rattle.gr_timeline.specs.Details.{details_of, event_in, number_in, phase_in, told_from, told_in}
use Rattle.gr_explain.specs.Events.{same_event}
use Rattle.gr_explain.proofs.Lists.{at_last}
use Rattle.gr_explain.proofs.Sets.{event_from_equal, event_itself}
use Rattle.gr_timeline.specs.Gathering.{AreKnownIn, IsKnownIn, KeepsRecord, event_of, details_by, word_in, AreOthersKept}

-- where one element more is not the one of a number that passes a test, that one and its place stay, and so do those before it
module _ {X : Type 0} (test : X → Bool) (xs : List X) (x : X) (k : ℕ) where
  element_stays : (test x ≡ true → k ≢ length (filter test xs)) → slice_get (filter test (xs ++ x ∷ [])) k ≡ slice_get (filter test xs) k
  element_stays other = grind (arith, common_steps, gets, filter_more test xs x)

  place_stays : (test x ≡ true → k ≢ length (filter test xs)) → slice_get (places_from test 0 (xs ++ x ∷ [])) k ≡ slice_get (places_from test 0 xs) k
  place_stays other = grind (arith, common_steps, gets, places_more test xs x, length-places test 0 xs)

  first_stay : k < length (filter test xs) → take k (filter test (xs ++ x ∷ [])) ≡ take k (filter test xs)
  first_stay lt = grind (arith, common_steps, filter_more test xs x, take-append-le k (filter test xs) (x ∷ []))

-- each event has details
pub event_is_told : (s : Streams) (e : EventId) → IsEvent s e → is_some (details_of s e) ≡ true
event_is_told s e there =
    let places = places_from (is_of e.at.item) 0 (list_of s e.at.group) in
    let at = slice_get-get_or places e.index 0 (omega (arith, length-places (is_of e.at.item) 0 (list_of s e.at.group), slice_get_within (trace_of s e.at) e.index there.0 there.1)) in
    rw (there.1, at) refl

barriers_pushed : (trace : List Event) (x : Event) → length (filter is_barrier (trace ++ x ∷ [])) ≡ length (filter is_barrier trace) + (if is_barrier x then 1 else 0)
barriers_pushed trace x = grind (arith, common_steps, filter-append)

counted_more : (list : List Event) (x : Event) (i : ℕ) (b : Bool) → is_of i x ≡ b → after_record i x (counted list i) ≡ counted (list ++ x ∷ []) i
counted_more list x i true t = rw (t, filter_more (is_of i) list x, t, length_push, barriers_pushed)
counted_more list x i false f = rw (f, filter_more (is_of i) list x, f)

pub counts_more : (items : ℕ) (list : List Event) (x : Event) (old new : List Count) → length new ≡ length old → ((i : ℕ) → slice_get new i ≡ option_map (after_record i x) (slice_get old i)) → AreCounts items list old → AreCounts items (list ++ x ∷ []) new
counts_more items list x old new same each counts = record {
  length_is = same ∙ counts.length_is;
  each = λ i lt. rw (each i, counts.each i lt) (ap Some (counted_more list x i (is_of i x) refl));
}

-- counts of a list that is no longer than another are small
pub counted_small : (list : List Event) (i : ℕ) → length list < MOST_RECORDS → IsSmall (counted list i)
counted_small list i few =
    let records = length-filter_le (is_of i) list in
    let barriers = length-filter_le is_barrier (filter (is_of i) list) in
    (omega (arith, records, few), omega (arith, records, barriers, few))

-- a record that accesses a word is one of its item
access_is_of : (k : Kind) (w v : Word) → word_if_access k w ≡ Some v → is_end_kind k ≡ false
access_is_of k w v is = grind arith

-- what is known of an event by a longer list is what is known by a shorter one
still_known : (list longer : List Event) (w : Word) (e : EventId) (o : Option Details) → event_in longer e ≡ event_in list e → told_in longer e ≡ told_in list e → IsKnownIn list w e o → IsKnownIn longer w e o
still_known list longer w e None event told known = rw event known
still_known list longer w e (Some d) event told known = (rw event known.0, told ∙ known.1)

-- nothing is known of what is no access to the word
unknown : (list longer : List Event) (w : Word) (e : EventId) (o : Option Details) → word_in list e ≡ None → word_in longer e ≢ Some w → IsKnownIn list w e o → IsKnownIn longer w e o
unknown list longer w e None none off known = off
unknown list longer w e (Some d) none off known = let no : None ≡ Some w = sym none ∙ known.0 in cc

module _ (list : List Event) (x : Event) (w : Word) (g : ℕ) (old new : List (EventId × Details)) (keeps : KeepsRecord w g (length list) x (counted list x.item) old new) where
  abbrev next : EventId
  next = event_of g x (counted list x.item)

  abbrev longer : List Event
  longer = list ++ x ∷ []

  -- of any event but that of the record the same is known
  kept_other : (e : EventId) → (event_word g x ≡ Some w → next ≢ e) → KeepsRecord w g (length list) x (counted list x.item) old new → details_at new e ≡ details_at old e
  kept_other e other (inl on) = rw (on.1 e, false_from_ne_true (same_event next e) (λ t. other on.0 (event_from_equal next e t)))
  kept_other e other (inr off) = rw off.1

  pub others_kept : (e : EventId) → e.at.group ≢ g → details_at new e ≡ details_at old e
  others_kept e other = kept_other e (λ on same. other (sym (ap (λ (d : EventId). d.at.group) same))) keeps

  module _ (e : EventId) (group : e.at.group ≡ g) (known : IsKnownIn list w e (details_at old e)) where
    abbrev trace : List Event
    trace = filter (is_of e.at.item) list

    -- it is not that of the record
    known_away : (is_of e.at.item x ≡ true → e.index ≢ length trace) → IsKnownIn longer w e (details_at new e)
    known_away other =
        let event = element_stays (is_of e.at.item) list x e.index other in
        let number = place_stays (is_of e.at.item) list x e.index other in
        let kept = kept_other e (λ on same. let item = ap (λ (d : EventId). d.at.item) same in
        other (grind (arith, eq-eqb x.item e.at.item item, access_is_of x.kind _ w on)) (sym (ap (λ (d : EventId). d.index) same) ∙ ap (λ i. length (filter (is_of i) list)) item)) keeps in
        rw kept (still_known list longer w e (details_at old e) event (⊎_elim
        (λ lt. rw (event, number, first_stay (is_of e.at.item) list x e.index lt) refl)
        (λ past. rw (event, slice_get_past trace e.index past) refl)
        (cases_lt e.index (length trace))) known)

    module _ (mine : is_of e.at.item x ≡ true) where
      item : x.item ≡ e.at.item
      item = eqb-true x.item e.at.item (and_parts (x.item == e.at.item) (not (is_end x)) mine).0

      -- it is that of the record
      known_here : e.index ≡ length trace → KeepsRecord w g (length list) x (counted list x.item) old new → IsKnownIn longer w e (details_at new e)
      known_here here keep =
          let same : next ≡ e = λ k. record { at = record { group = sym group k; item = item k }; index = (ap (λ i. length (filter (is_of i) list)) item ∙ sym here) k } in
          let event : event_in longer e ≡ Some x = rw (filter_more, mine, here) (at_last trace x) in
          let number : number_in longer e ≡ Some (length list) = rw (places_more, mine, here ∙ sym (length-places (is_of e.at.item) 0 list)) (at_last (places_from (is_of e.at.item) 0 list) (length list)) in
          let phase : phase_in longer e ≡ length (filter is_barrier (filter (is_of x.item) list)) = rw (filter_more, mine, here, take-append_seam trace (x ∷ []), item) in
          let word : word_in longer e ≡ event_word g x = rw (event, group) in
          by_cases same (λ k. told_from (event k) (number k) (phase k)) word keep
        where
          by_cases : next ≡ e → told_in longer e ≡ Some (details_by (length list) x (counted list x.item)) → word_in longer e ≡ event_word g x → KeepsRecord w g (length list) x (counted list x.item) old new → IsKnownIn longer w e (details_at new e)
          by_cases same told word (inl on) = rw (on.1 e, (subst (λ (d : EventId). same_event next d ≡ true) same (event_itself next))) (word ∙ on.0, told)
          by_cases same told word (inr off) = rw off.1 (unknown list longer w e (details_at old e) (rw (slice_get_past trace e.index (let past : length trace ≤ e.index = omega (arith, here) in past))) (λ is. off.0 (sym word ∙ is)) known)

  -- what is known of the events of the group, with one record more
  pub record_known : AreKnownIn list w g old → AreKnownIn longer w g new
  record_known known e group = ⊎_elim
      (λ (mine : is_of e.at.item x ≡ true). ⊎_elim
      (λ here. known_here e group (known e group) mine here keeps)
      (λ apart. known_away e group (known e group) (λ _. apart))
      (cases_eq e.index (length (filter (is_of e.at.item) list))))
      (λ other. known_away e group (known e group) (λ mine. absurd (true≢false (sym mine ∙ other))))
      (cases_Bool (is_of e.at.item x))

-- ---- the next record of a list

-- what is counted and known of the first records of the list of a group
pub record AreGathered (items : ℕ) (w : Word) (g : ℕ) (before : List (EventId × Details)) (list : List Event) (counts : List Count) (known : List (EventId × Details)) : Type 0 where
  pub counted : AreCounts items list counts
  pub here : AreKnownIn list w g known
  pub others : AreOthersKept g before known

module _ (items number : ℕ) (list : List Event) (x : Event) (accepted : IsAccepted items list) (lt : number < length list) (is : x ≡ get_or list number x) (w : Word) (g : ℕ) (before : List (EventId × Details)) (counts : List Count) (known : List (EventId × Details)) (so_far : AreGathered items w g before (take number list) counts known) where
  abbrev first : List Event
  first = take number list

  first_length : length first ≡ number
  first_length = length-take-le number list (omega (arith, lt))

  item_there : x.item < items
  item_there = (accepted.good number x (slice_get_read list (length list) number x refl lt is)).0.0

  pub item_within : x.item < length counts
  item_within = omega (arith, item_there, so_far.counted.length_is)

  count_is : (c : Count) → slice_get counts x.item ≡ Some c → c ≡ counted first x.item
  count_is c at = let both : Some c ≡ Some (counted first x.item) = sym at ∙ so_far.counted.each x.item item_there in cc

  pub count_small : (c : Count) → slice_get counts x.item ≡ Some c → IsSmall c
  count_small c at = subst IsSmall (sym (count_is c at)) (counted_small first x.item (omega (arith, lt, first_length, accepted.few)))

  pub gathered_next : (c : Count) (new_counts : List Count) (new : List (EventId × Details)) → c ≡ get_or counts x.item c → length new_counts ≡ length counts → ((i : ℕ) → slice_get new_counts i ≡ option_map (after_record i x) (slice_get counts i)) → KeepsRecord w g number x c known new → AreGathered items w g before (take (number + 1) list) new_counts new
  gathered_next c new_counts new read same each keep =
      let count = count_is c (slice_get_read counts (length counts) x.item c refl item_within read) in
      let keeps = subst (λ (n : ℕ). KeepsRecord w g n x (counted first x.item) known new) (sym first_length) (subst (λ (d : Count). KeepsRecord w g number x d known new) count keep) in
      rw (take_more list number x lt, ← is) (record {
        counted = counts_more items first x counts new_counts same each so_far.counted;
        here = record_known first x w g known new keeps so_far.here;
        others = λ e other. others_kept first x w g known new keeps e other ∙ so_far.others e other;
      })

-- ---- all groups

-- of the groups below a bound all is known, and of others nothing
pub record IsKnownBelow (s : Streams) (w : Word) (bound : ℕ) (known : List (EventId × Details)) : Type 0 where
  pub before : (e : EventId) → e.at.group < bound → IsKnown s w e (details_at known e)
  pub behind : (e : EventId) → bound ≤ e.at.group → details_at known e ≡ None
