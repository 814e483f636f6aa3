-- The list of accesses that shadows represent.
-- Source: docs/MODEL.md, "Hits".
use Rattle.std.specs.Prelude.{◌≡◌, ◌↔◌, IsTrue, false, List, [], ◌∷◌, ◌++◌, filter, map}
use Rattle.gr_model.specs.declared.event.Word.{Word}
use Rattle.gr_clocks.specs.ClockedAccess.{ClockedAccess}
use Rattle.gr_shadow.specs.Clashes.{IsHitIn}
use Rattle.gr_shadow.specs.Keeps.{Keeps, touch_of}
use Rattle.gr_shadow.specs.Kept.{Kept, same_word, shadow_at}

abbrev pub accesses_to : Word → List ClockedAccess → List ClockedAccess
accesses_to w accesses = filter (λ x. same_word x.word w) accesses

-- the words that were answered are those that are hit, and of each other word each access is kept, or a later one of its item and class
pub record StandsFor (accesses : List ClockedAccess) (kept : Kept) : Type 0 where
  pub touches : (w : Word) → (shadow_at kept w).answered ≡ false → Keeps (shadow_at kept w).touches (map touch_of (accesses_to w accesses))
  pub answered : (w : Word) → IsTrue (shadow_at kept w).answered ↔ IsHitIn accesses w

-- a word is hit in a list of accesses with one more, and was not before
pub record IsHitBy (accesses : List ClockedAccess) (y : ClockedAccess) (w : Word) : Type 0 where
  pub now : IsHitIn (accesses ++ y ∷ []) w
  pub before : ¬ IsHitIn accesses w
