-- A map of shadows as what is kept of each word.
use Rattle.gr_model.proofs.Common.{◌≡◌, ◌↔◌, true, IsTrue, List, [], ◌∷◌, cond, Some, Contains, refl, ◌∙◌, arith, IsDistinct, get_or_from_slice_get, slice_get_within}
use Rattle.std.specs.Map.{lookup, keys_of}
use Rattle.std.proofs.lemmas.Map.{lookup-none}
use Rattle.std.proofs.lemmas.Map.Entries.{none_past_head}
use Rattle.std.proofs.lemmas.Map.Keys.{IsDistinct-tail}
use Rattle.gr_model.specs.declared.event.Word.{Word}
use Rattle.gr_model.specs.contracts.event.WordEq.TheImpl.Laws as equal
use Rattle.gr_model.proofs.Pairs.{SomeOf, SomeOf-at, SomeOf-place}
use Rattle.gr_model.proofs.WordLemmas.{same_from_equal}
use Rattle.gr_model.proofs.Places.{Contains-at}
use Rattle.gr_clocks.specs.ClockedAccess.{ClockedAccess}
use Rattle.gr_shadow.specs.Kept.{WordShadow, IsShadowAfter, Kept, same_word, shadow_at, answered_words, IsAfter}

-- what an update leaves in a map
abbrev pub HasUpdate : Kept → Word → WordShadow → Kept → Type 0
HasUpdate old v s new = (w : Word) → lookup (same_word w) new ≡ cond (same_word v w) (Some s) (lookup (same_word w) old)

-- a map in which the word of an access has its next shadow, and each other word what it had
pub after_update : (old : Kept) (y : ClockedAccess) (s : WordShadow) (new : Kept) → IsShadowAfter (shadow_at old y.word) y s → HasUpdate old y.word s new → IsAfter old y new
after_update old y s new after update = record {
  word = let now : shadow_at new y.word ≡ s = grind (arith, update y.word, equal.laws-law.refl y.word) in rw now after;
  others = λ w f. grind (arith, update w);
}

-- ---- the words that were answered

pub Contains-some : {X : Type 0} (xs : List X) (w : X) → Contains xs w ↔ SomeOf (λ x. x ≡ w) xs
Contains-some xs w = (
  λ h. SomeOf-at (λ x. x ≡ w) xs h.0 w (Contains-at xs w h) refl,
  λ h. let p = SomeOf-place (λ x. x ≡ w) xs h in (p.0, slice_get_within xs p.0 p.1 p.2, get_or_from_slice_get xs p.0 p.1 w p.2 ∙ p.3),
)

pub iff_trans : {A B C : Type 0} → A ↔ B → B ↔ C → A ↔ C
iff_trans p q = (λ a. q.0 (p.0 a), λ c. p.1 (q.1 c))

some_answered : (kept : Kept) → IsDistinct same_word (keys_of kept) → (w : Word) → SomeOf (λ v. v ≡ w) (answered_words kept) ↔ IsTrue (shadow_at kept w).answered
some_answered [] distinct w = grind arith
some_answered (e ∷ kept) distinct w =
    let past = λ (t : same_word w e.0 ≡ true). lookup-none (same_word w) kept (none_past_head equal.laws-law w e kept distinct t) in
    grind (arith, past, some_answered kept (IsDistinct-tail same_word e.0 (keys_of kept) distinct) w, same_from_equal w e.0, equal.laws-law.refl w)

-- where the words of a map differ, the words that were answered are those whose shadow says so
pub answered_words_told : (kept : Kept) → IsDistinct same_word (keys_of kept) → (w : Word) → Contains (answered_words kept) w ↔ IsTrue (shadow_at kept w).answered
answered_words_told kept distinct w = iff_trans (Contains-some (answered_words kept) w) (some_answered kept distinct w)
