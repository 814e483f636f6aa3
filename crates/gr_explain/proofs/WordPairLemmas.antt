-- The pairs of tags that race on each of some words, where one more access comes.
use Rattle.gr_model.proofs.Common.{◌≡◌, ◌≢◌, ℕ, ◌+◌, ◌<◌, true, false, cond, Contains, List, [], ◌∷◌, ◌++◌, Some, None, get_or, length, take, refl, ⊎_elim, arith, cases_Bool, take_more, Contains-push_cases}
use Rattle.std.specs.Map.{lookup}
use Rattle.gr_explain.specs.Types.{EventId, Word}
use Rattle.gr_explain.specs.declared.tag_pairs.TagPairs.{TagPairs}
use Rattle.gr_model.specs.contracts.event.WordEq.TheImpl.Laws as equal
use Rattle.gr_model.proofs.WordLemmas.{same_from_equal}
use Rattle.gr_shadow.specs.Clashes.{ClockedAccess, event_of}
use Rattle.gr_shadow.specs.Kept.{same_word}
use Rattle.gr_explain.specs.TagPairs.{IsTagAdded, StandsForTags}
use Rattle.gr_explain.specs.WordPairs.{HasPairs, StandForWords}
use Rattle.gr_explain.proofs.TagPairLemmas.{other_stands_for_tags}

apart : (v w : Word) → same_word v w ≡ false → v ≢ w
apart v w f same = grind (arith, equal.laws-law.refl v)

module _ {Z : Type 0} where
  -- what an update leaves in a map
  abbrev pub HasUpdate : List (Word × TagPairs Z) → Word → TagPairs Z → List (Word × TagPairs Z) → Type 0
  HasUpdate old v p new = (w : Word) → lookup (same_word w) new ≡ cond (same_word v w) (Some p) (lookup (same_word w) old)

  -- one word more, where no access to it came
  pub word_more : (tag_of : EventId → ℕ) (words : List Word) (k : ℕ) (v : Word) (old new : List (Word × TagPairs Z)) (p : TagPairs Z) → k < length words → HasUpdate old (get_or words k v) p new → ((w : Word) → StandsForTags tag_of w [] p) → StandForWords tag_of (take k words) [] old → StandForWords tag_of (take (k + 1) words) [] new
  word_more tag_of words k v old new p lt update none stand w in_more = ⊎_elim
      (λ (is : same_word (get_or words k v) w ≡ true). record { pairs = p; at = grind (arith, update w, is); stands = none w })
      (λ (fails : same_word (get_or words k v) w ≡ false). ⊎_elim
      (λ (was : Contains (take k words) w). let h = stand w was in record { pairs = h.pairs; at = grind (arith, update w, h.at, fails); stands = h.stands })
      (λ (last : get_or words k v ≡ w). absurd (apart (get_or words k v) w fails last))
      (Contains-push_cases (take k words) (get_or words k v) w (rw (take_more words k v lt) at in_more)))
      (cases_Bool (same_word (get_or words k v) w))

  module _ (tag_of : EventId → ℕ) (words : List Word) (accesses : List ClockedAccess) (y : ClockedAccess) where
    -- an access to one of the words
    pub word_added : (old new : List (Word × TagPairs Z)) (p q : TagPairs Z) → lookup (same_word y.word) old ≡ Some p → HasUpdate old y.word q new → IsTagAdded y (tag_of (event_of y)) p q → StandForWords tag_of words accesses old → StandForWords tag_of words (accesses ++ y ∷ []) new
    word_added old new p q found update added stand w in_words = ⊎_elim
        (λ (is : same_word y.word w ≡ true).
        let same : y.word ≡ w = same_from_equal y.word w is in
        let one : h.pairs ≡ p = grind (arith, h.at, found, same) in
        record { pairs = q; at = grind (arith, update w, is); stands = rw (← same) (added tag_of accesses refl (rw (same, ← one) h.stands)) })
        (λ fails. record { pairs = h.pairs; at = grind (arith, update w, h.at, fails); stands = other_stands_for_tags tag_of w accesses y (apart y.word w fails) h.pairs h.stands })
        (cases_Bool (same_word y.word w))
      where
        h : HasPairs tag_of accesses old w
        h = stand w in_words

    -- an access to another one
    pub no_word_added : (old new : List (Word × TagPairs Z)) → lookup (same_word y.word) old ≡ None → new ≡ old → StandForWords tag_of words accesses old → StandForWords tag_of words (accesses ++ y ∷ []) new
    no_word_added old new absent same stand w in_words =
        let h = stand w in_words in
        record { pairs = h.pairs; at = grind (arith, same, h.at); stands = other_stands_for_tags tag_of w accesses y (λ is. grind (arith, absent, h.at, is)) h.pairs h.stands }
