-- The accesses to a word in a list and those of them that clash, where one more comes.
use Rattle.gr_model.proofs.Common.{◌≡◌, ◌⊎◌, ◌<◌, true, List, [], ◌∷◌, ◌++◌, length, Some, slice_get, refl, sym, ap, ◌∙◌, inl, inr, ⊎_elim, arith, length-append, Contains-append_left, Contains-push, Contains-push_cases, get_or_from_slice_get, slice_get_within}
use Rattle.gr_explain.specs.Types.{Class, EventId, Word}
use Rattle.gr_model.specs.Prelude.{Pair}
use Rattle.gr_model.proofs.Places.{Contains-at, slice_get-append}
use Rattle.gr_shadow.specs.Clashes.{ClockedAccess, IsClashIn, clashes_with, event_of}
use Rattle.gr_explain.specs.ClashPairs.{IsClashPair, IsOfList}
use Rattle.gr_explain.proofs.Lists.{at_last, last_cases}

module _ (w : Word) (accesses : List ClockedAccess) (y : ClockedAccess) where
  pub still_of : (e : EventId) (c : Class) → IsOfList w accesses e c → IsOfList w (accesses ++ y ∷ []) e c
  still_of e c of = record { access = of.access; there = Contains-append_left accesses (y ∷ []) of.access of.there; word = of.word; event = of.event; class = of.class }

  -- what is of the list with one more was of it, or is that one
  pub of_cases : (e : EventId) (c : Class) → IsOfList w (accesses ++ y ∷ []) e c → IsOfList w accesses e c ⊎ ((y.word ≡ w) × (event_of y ≡ e) × (y.class ≡ c))
  of_cases e c of = ⊎_elim
      (λ was. inl (record { access = of.access; there = was; word = of.word; event = of.event; class = of.class }))
      (λ (last : y ≡ of.access). inr (ap (λ (x : ClockedAccess). x.word) last ∙ of.word, ap event_of last ∙ of.event, ap (λ (x : ClockedAccess). x.class) last ∙ of.class))
      (Contains-push_cases accesses y of.access of.there)

  pub still_pair : (pair : Pair) → IsClashPair w accesses pair → IsClashPair w (accesses ++ y ∷ []) pair
  still_pair pair is =
      let h = is.clash in
      record { earlier = is.earlier; later = is.later; clash = (h.0, h.1, h.2, h.3, h.4, slice_get-append accesses (y ∷ []) h.0 h.2 h.5, slice_get-append accesses (y ∷ []) h.1 h.3 h.6, h.7); turned = is.turned; below = is.below }

  -- an access to the word clashes with that of an earlier event
  pub record IsNewClash (e f : EventId) : Type 0 where
    pub class : Class
    pub of : IsOfList w accesses e class
    pub word : y.word ≡ w
    pub event : event_of y ≡ f
    pub clash : clashes_with e.at e.index class y ≡ true

  -- a clash in the list with one more was one, or is one of that access
  pub clash_was : (e f : EventId) → IsClashIn (accesses ++ y ∷ []) w e f → IsClashIn accesses w e f ⊎ IsNewClash e f
  clash_was e f (p, q, x, z, lt, at_p, at_q, h) = ⊎_elim
      (λ (earlier : (p < length accesses) × (slice_get accesses p ≡ Some x)). ⊎_elim
      (λ (later : (q < length accesses) × (slice_get accesses q ≡ Some z)). inl (p, q, x, z, lt, earlier.1, later.1, h))
      (λ (last : (q ≡ length accesses) × (z ≡ y)).
      let of : IsOfList w accesses e x.class = record { access = x; there = (p, earlier.0, get_or_from_slice_get accesses p x x earlier.1); word = h.clash.first; event = h.earlier; class = refl } in
      let clash = h.clash.clashes in
      inr (record { class = x.class; of = of; word = ap (λ (a : ClockedAccess). a.word) (sym last.1) ∙ h.clash.second; event = ap event_of (sym last.1) ∙ h.later; clash = grind (arith, last.1, h.earlier, clash) }))
      (last_cases accesses y q z at_q))
      (λ (last : (p ≡ length accesses) × (x ≡ y)). absurd (omega (arith, lt, last.0, slice_get_within (accesses ++ y ∷ []) q z at_q, length-append accesses (y ∷ []))))
      (last_cases accesses y p x at_p)

module _ (accesses : List ClockedAccess) (y : ClockedAccess) (e : EventId) (c : Class) where
  pub new_is_of : event_of y ≡ e → y.class ≡ c → IsOfList y.word (accesses ++ y ∷ []) e c
  new_is_of event class = record { access = y; there = Contains-push accesses y; word = refl; event = event; class = class }

  -- an access clashes with that of an event in the list
  pub clash_added : IsOfList y.word accesses e c → clashes_with e.at e.index c y ≡ true → IsClashIn (accesses ++ y ∷ []) y.word e (event_of y)
  clash_added of clash = (of.there.0, length accesses, of.access, y, of.there.1, slice_get-append accesses (y ∷ []) of.there.0 of.access (Contains-at accesses of.access of.there), at_last accesses y, record { clash = record { first = of.word; second = refl; clashes = grind (arith, clash, of.class, of.event) }; earlier = of.event; later = refl })
