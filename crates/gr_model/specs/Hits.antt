-- Which words are hit by a list of accesses.
-- Source: docs/MODEL.md, "Hits". The list may be of any type, with a word for each element and a test of whether a later access clashes with an earlier one.
use Rattle.std.specs.Prelude.{◌≡◌, ℕ, ◌<◌, Bool, Some, List, slice_get, IsTrue}
use Rattle.gr_model.specs.declared.event.Word.{Word}

-- an earlier and a later element that R relates
abbrev pub SomePair : {X : Type 0} → (X → X → Type 0) → List X → Type 0
SomePair {X} R xs = (p q : ℕ) × (x y : X) × (p < q) × (slice_get xs p ≡ Some x) × (slice_get xs q ≡ Some y) × R x y

-- x and y access the word, and y, the later one, clashes with x
pub record ClashesAt {X : Type 0} (word : X → Word) (clash : X → X → Bool) (w : Word) (x y : X) : Type 0 where
  pub first : word x ≡ w
  pub second : word y ≡ w
  pub clashes : IsTrue (clash x y)

-- a word is hit in a list of accesses
abbrev pub IsHit : {X : Type 0} → (X → Word) → (X → X → Bool) → List X → Word → Type 0
IsHit word clash xs w = SomePair (ClashesAt word clash w) xs
