-- What shadows keep of the accesses that they were given. No public contract names it but by `StandsFor`.
use Rattle.std.specs.Prelude.{◌≡◌, Bool, false, ◌&&◌, ◌||◌, not, List, [], ◌∷◌, ◌++◌, filter, map, unwrap_or}
use Rattle.std.specs.List.{list_any}
use Rattle.std.specs.Map.{lookup}
use Rattle.gr_model.specs.declared.event.Word.{Word}
use Rattle.gr_model.specs.contracts.event.WordPartialEq.TheImpl as equality
use Rattle.gr_shadow.specs.declared.touch.Touch.{Touch}
use Rattle.gr_clocks.specs.ClockedAccess.{ClockedAccess}
use Rattle.gr_shadow.specs.Keeps.{Keeps, touch_of, touch_clashes}

-- ---- of one word

-- what is kept of its accesses, and whether the word was answered
pub record WordShadow : Type 0 where
  pub touches : List Touch
  pub answered : Bool

abbrev pub no_shadow : WordShadow
no_shadow = record { touches = []; answered = false }

-- an access clashes with one before it
abbrev pub clashes_before : WordShadow → ClockedAccess → Bool
clashes_before s y = list_any (touch_clashes y) s.touches

-- the word becomes hit by this access
abbrev pub is_first_hit : WordShadow → ClockedAccess → Bool
is_first_hit s y = not s.answered && clashes_before s y

-- what is kept after one more access
pub record IsShadowAfter (old : WordShadow) (y : ClockedAccess) (new : WordShadow) : Type 0 where
  pub answered : new.answered ≡ (old.answered || clashes_before old y)
  pub touches : new.answered ≡ false → Keeps new.touches (old.touches ++ touch_of y ∷ [])

-- ---- of all words

-- the words that were accessed, with what is kept of each
abbrev pub Kept : Type 0
Kept = List (Word × WordShadow)

abbrev pub same_word : Word → Word → Bool
same_word v w = (equality.eq-value).it v w

abbrev pub shadow_at : Kept → Word → WordShadow
shadow_at kept w = unwrap_or (lookup (same_word w) kept) no_shadow

-- the words that were answered
abbrev pub answered_words : Kept → List Word
answered_words kept = map (λ e. e.0) (filter (λ e. e.1.answered) kept)

-- what is kept after one more access: the shadow of its word alone has changed
pub record IsAfter (old : Kept) (y : ClockedAccess) (new : Kept) : Type 0 where
  pub word : IsShadowAfter (shadow_at old y.word) y (shadow_at new y.word)
  pub others : (w : Word) → same_word y.word w ≡ false → shadow_at new w ≡ shadow_at old w
