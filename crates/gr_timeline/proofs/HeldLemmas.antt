-- The accesses to a word that are held are those that are left of all if the grounded ones are taken away.
use Rattle.gr_model.proofs.Common.{◌≡◌, ◌≢◌, ◌↔◌, ◌+◌, not, Bool, true, List, filter, length, Option, Some, None, is_some, refl, sym, ap, ◌∙◌, subst, arith, true≢false, [], Decides, IsDistinct, and_parts, not-true, length-map, AllPairs-from_IsDistinct, IsDistinct-from_AllPairs, is_member-filter, is_some-lookup, length-intersection_difference, get_or_from_slice_get, slice_get_within}
use Rattle.std.specs.List.{AllPairs}
use Rattle.std.specs.Map.{keys_of}
use Rattle.std.specs.Set.{IsDifference, IsIntersection, is_member}
use Rattle.std.proofs.lemmas.List.Kept.{AllPairs-filter}
use Rattle.std.proofs.lemmas.Map.Views.{Contains-from_any, list_any-from_Contains}
use Rattle.gr_timeline.specs.Types.{EventId, Word, Details, Entry}
use Rattle.gr_model.specs.Prelude.{IsIn, Streams, IsGrounded}
use Rattle.gr_model.proofs.Places.{Contains-at}
use Rattle.gr_explain.specs.Events.{same_event}
use Rattle.gr_explain.proofs.Sets.{event_from_equal}
use Rattle.gr_timeline.specs.Accesses.{AreAccesses, IsKnown, IsOn, details_at}
use Rattle.gr_timeline.specs.Held.{AreHeld}
use Rattle.gr_model.proofs.Descent.{lawful_is_grounded}
use Rattle.gr_timeline.specs.Histories.{IsHistory, Line, events_of, lines_of}
use Rattle.gr_timeline.proofs.SelectionLemmas.{those_have, those_once, those_within, length_below}
use Rattle.gr_model.specs.contracts.event.EventIdEq.TheImpl.Laws as equal

decides : (d e : EventId) → Decides (same_event d e) (d ≡ e)
decides d e = (event_from_equal d e, λ same. subst (λ (x : EventId). same_event d x ≡ true) same (equal.laws-law.refl d))

-- ---- lists of events

member_in : (events : List EventId) (e : EventId) → is_member same_event events e ≡ true → IsIn events e
member_in events e is = let there = Contains-from_any event_from_equal e events is in (there.0, Contains-at events e there)

in_member : (events : List EventId) (e : EventId) → IsIn events e → is_member same_event events e ≡ true
in_member events e is = list_any-from_Contains equal.laws-law e events (is.0, slice_get_within events is.0 e is.1, get_or_from_slice_get events is.0 e e is.1)

-- ---- what is left

module _ (s : Streams) (w : Word) (known : List (EventId × Details)) (distinct : IsDistinct same_event (keys_of known)) (are : AreAccesses s w known) where
  key_is_on : (e : EventId) (o : Option Details) → details_at known e ≡ o → IsKnown s w e o → (is_member same_event (keys_of known) e ≡ true) ↔ IsOn s w e
  key_is_on e None none off = (λ is. absurd (true≢false (sym (is_some-lookup (same_event e) known ∙ is) ∙ ap is_some none)), λ on. absurd (off on))
  key_is_on e (Some d) some is = (λ _. is.0, λ _. sym (is_some-lookup (same_event e) known) ∙ ap is_some some)

  on_key : (e : EventId) → (is_member same_event (keys_of known) e ≡ true) ↔ IsOn s w e
  on_key e = key_is_on e (details_at known e) refl (are e)

  module _ (those : List EventId) (once : AllPairs (λ x y. x ≢ y) those) (grounded : (e : EventId) → IsIn those e ↔ (IsOn s w e × IsGrounded s e)) where
    abbrev keys : List EventId
    keys = keys_of known

    abbrev is_left : EventId → Bool
    is_left e = not (is_member same_event those e)

    abbrev left : List EventId
    left = filter is_left keys

    in_keys : (e : EventId) → is_member same_event those e ≡ true → is_member same_event keys e ≡ true
    in_keys e is = (on_key e).1 ((grounded e).0 (member_in those e is)).0

    shared : IsIntersection same_event keys those those
    shared q = grind (arith, in_keys q)

    rest : IsDifference same_event keys those left
    rest q = is_member-filter equal.laws-law is_left q (λ x same. ap is_left (event_from_equal q x same)) keys

    left_pairs : AllPairs (λ x y. x ≢ y) left
    left_pairs = AllPairs-filter (λ x y. x ≢ y) is_left keys (AllPairs-from_IsDistinct decides keys distinct)

    left_held : (e : EventId) → IsIn left e → IsOn s w e × ¬ IsGrounded s e
    left_held e is =
        let parts = and_parts (is_member same_event keys e) (is_left e) (sym (rest e) ∙ in_member left e is) in
        let on = (on_key e).0 parts.0 in
        (on, λ stands. true≢false (sym (in_member those e ((grounded e).1 (on, stands))) ∙ not-true (is_member same_event those e) parts.1))

    held_left : (e : EventId) → IsOn s w e × ¬ IsGrounded s e → IsIn left e
    held_left e held =
        let away : is_member same_event those e ≡ true → ⊥ = λ is. held.1 ((grounded e).0 (member_in those e is)).1 in
        member_in left e (grind (arith, rest e, (on_key e).1 held.0, away))

    -- those that are left are held, and they and the grounded ones are all
    pub held_are_left : (held : List EventId) × AreHeld s w held × (length those + length held ≡ length known)
    held_are_left = (
      left,
      record { each = λ e. (left_held e, held_left e); once = left_pairs },
      length-intersection_difference equal.laws-law keys those those left distinct (IsDistinct-from_AllPairs decides those once) (IsDistinct-from_AllPairs decides left left_pairs) shared rest ∙ length-map known (λ x. x.0),
    )

-- ---- the accesses that are held

module _ {Z : Type 0} (s : Streams) (w : Word) (entries : List (Entry Z)) (history : IsHistory s w (lines_of entries)) where
  abbrev lines : List Line
  lines = lines_of entries

  grounded_there : (e : EventId) → IsIn (events_of lines) e ↔ (IsOn s w e × IsGrounded s e)
  grounded_there e = (
    λ there.
        let ordered = those_within (IsOn s w) history.order (events_of lines) history.along.events there.0 e there.1 in
        (ordered.2, lawful_is_grounded s history.order e history.whole.lawful (ordered.0, ordered.1)),
    λ is. let ordered = history.whole.whole e is.1 in those_have (IsOn s w) history.order (events_of lines) history.along.events ordered.0 e ordered.1 is.0,
  )

  -- those that have no line are held
  pub others_are_held : (known : List (EventId × Details)) → IsDistinct same_event (keys_of known) → AreAccesses s w known → (held : List EventId) × AreHeld s w held × (length entries + length held ≡ length known)
  others_are_held known distinct are =
      let once = those_once (IsOn s w) history.order (events_of lines) history.along.events history.whole.lawful.once in
      let left = held_are_left s w known distinct are (events_of lines) once grounded_there in
      (left.0, left.1, ap (λ n. n + length left.0) (sym (length-map lines (λ l. l.event) ∙ length_below [] entries)) ∙ left.2)
