-- Places in an order and in a longer one, and what a lawful order has.
use Rattle.gr_model.proofs.Common.{◌≡◌, ◌⊎◌, ℕ, suc, ◌+◌, ◌-◌, ◌<◌, List, [], ◌∷◌, ◌++◌, length, Some, slice_get, refl, sym, ap, inl, inr, arith, ◌≤◌, ⊎_elim, common_steps, gets, slice_get_cases, slice_get_within}
use Rattle.gr_model.specs.declared.event.EventId.{EventId}
use Rattle.gr_model.specs.Prelude.{Together, Mark, IsAt, IsIn, IsLawful, IsEvent, Streams, IsPrevious, IsSettled, Waits}
use Rattle.gr_model.proofs.Descent.{below_in_item, lawful_descends}
use Rattle.gr_model.proofs.Places.{slice_get-append}
use Rattle.gr_model.proofs.Cuts.{same_event}

-- ---- lists

-- an element of a list is in its prefix, or so far after it
pub split_last : {X : Type 0} (xs ys : List X) (p : ℕ) (x : X) → slice_get (xs ++ ys) p ≡ Some x → (slice_get xs p ≡ Some x) ⊎ ((i : ℕ) × (p ≡ length xs + i) × (slice_get ys i ≡ Some x))
split_last xs ys p x at = grind (arith, common_steps, gets)

pub at_behind : {X : Type 0} (xs ys : List X) (i : ℕ) (x : X) → slice_get ys i ≡ Some x → slice_get (xs ++ ys) (length xs + i) ≡ Some x
at_behind xs ys i x at = grind (arith, common_steps, gets)

pub there_is : {X : Type 0} (xs : List X) (i : ℕ) → i < length xs → (x : X) × (slice_get xs i ≡ Some x)
there_is xs i lt = grind (arith, slice_get_cases xs i)

-- ---- events

-- an element of a list is its first, or comes after that
pub in_cases : (x : EventId) (xs : List EventId) (e : EventId) → IsIn (x ∷ xs) e → (e ≡ x) ⊎ IsIn xs e
in_cases x xs e (p, at) = grind arith

pub in_either : (x : EventId) (xs : List EventId) (e : EventId) → (e ≡ x) ⊎ IsIn xs e → IsIn (x ∷ xs) e
in_either x xs e (inl same) = (0, ap Some (sym same))
in_either x xs e (inr h) = (suc h.0, h.1)

-- ---- lawful orders

-- with an event, it and the earlier ones of its item are in a lawful order
pub handled_upto : (s : Streams) (order : List EventId) → IsLawful s order → (d e : EventId) → d.at ≡ e.at → d.index ≤ e.index → IsIn order e → IsIn order d
handled_upto s order lawful d e item upto (p, at) =
    grind (arith, same_event d e item, below_in_item s (IsAt order) (lawful_descends s order lawful) p d e at item, at)

-- the event before another comes at or after each that is earlier than that
pub previous_of : (e : EventId) (n : ℕ) → n < e.index → (p : EventId) × IsPrevious p e × (n ≤ p.index)
previous_of e n lt = (record { at = e.at; index = e.index - 1 }, record { item = refl; next = omega (arith, lt) }, omega (arith, lt))

-- the order of no events is lawful
pub lawful_empty : (s : Streams) → IsLawful s []
lawful_empty s = grind arith

-- with a barrier, each that it meets is in a lawful order
pub met_handled : (s : Streams) (order : List EventId) → IsLawful s order → (a : Mark) (e b : EventId) → IsIn order e → Together s a e b → IsIn order b
met_handled s order lawful a e b h met = grind (arith, h, lawful.together h.0 e b a h.1 met)

-- events that may come after a lawful order: they wait only for what is in it
pub record AreNext (s : Streams) (order next : List EventId) : Type 0 where
  pub event : (i : ℕ) (x : EventId) → IsAt next i x → IsEvent s x × IsSettled s x
  pub fresh : (i : ℕ) (x : EventId) → IsAt next i x → ¬ IsIn order x
  pub once : (i j : ℕ) (x : EventId) → IsAt next i x → IsAt next j x → i ≡ j
  pub waits : (i : ℕ) (x d : EventId) → IsAt next i x → Waits s x d → IsIn order d
  pub together : (i : ℕ) (x b : EventId) (a : Mark) → IsAt next i x → Together s a x b → (j : ℕ) × (j + x.at.item ≡ i + b.at.item) × IsAt next j b

pub lawful_longer : (s : Streams) (order next : List EventId) → IsLawful s order → AreNext s order next → IsLawful s (order ++ next)
lawful_longer s order next lawful are = record {
  event = λ p x at. ⊎_elim (lawful.event p x) (λ h. are.event h.0 x h.2) (split_last order next p x at);
  once = λ p q x at bt. grind (arith, split_last order next p x at, split_last order next q x bt, lawful.once p q x, are.once, are.fresh);
  after = λ p x d at w. ⊎_elim
      (λ was. let there = lawful.after p x d was w in (there.0, there.1, slice_get-append order next there.0 d there.2))
      (λ h.
      let there = are.waits h.0 x d h.2 w in
      (there.0, omega (arith, h.1, slice_get_within order there.0 d there.1), slice_get-append order next there.0 d there.1))
      (split_last order next p x at);
  together = λ p x b a at met. ⊎_elim
      (λ was. let there = lawful.together p x b a was met in (there.0, there.1, slice_get-append order next there.0 b there.2))
      (λ h.
      let there = are.together h.0 x b a h.2 met in
      (length order + there.0, omega (arith, h.1, there.1), at_behind order next there.0 b there.2))
      (split_last order next p x at);
}
