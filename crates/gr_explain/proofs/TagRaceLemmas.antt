-- The races of words, one for each two tags, from what is kept of the accesses along a lawful order of all grounded events.
use Rattle.gr_model.proofs.Common.{◌<◌, length, ◌≡◌, ◌⊎◌, ℕ, suc, Bool, true, false, All, AllPairs, Contains, List, [], ◌∷◌, ◌++◌, arith, get_or, map, sym, ◌∙◌, subst, inl, inr, ⊎_elim, nat_tests, get_or-map, length-map, All-append, All-contains, All-map, All-weaker, Contains-append_left, Contains-append_right, Contains-get_or}
use Rattle.std.proofs.lemmas.List.Kept.{AllPairs-cons}
use Rattle.gr_explain.specs.Types.{EventId, Word, Race, TaggedRace}
use Rattle.gr_explain.specs.declared.tag_pairs.TagPairs.{TagPairs}
use Rattle.gr_model.specs.Prelude.{IsWholeOrder, IsRacePair, TagsRace, WordBelow, Streams}
use Rattle.gr_closure.specs.AccessesAlong.{AreAccesses}
use Rattle.gr_shadow.specs.Clashes.{ClockedAccess}
use Rattle.gr_shadow.proofs.KeepsLemmas.{Contains-first, Contains-rest}
use Rattle.gr_explain.specs.TagPairs.{HaveOtherTags, IsTaggedClash, StandsForTags, is_of_tags, is_so}
use Rattle.gr_explain.specs.TagRaces.{AreOfTwoGroups, AreTagRaces, HasRaceOfTags, IsApart}
use Rattle.gr_explain.specs.WordPairs.{StandForWords, races_at}
use Rattle.gr_explain.proofs.Lists.{any_there, first_or_rest, mapped_there}
use Rattle.gr_explain.proofs.RacePairs.{clash_is_race, race_is_clash}

-- ---- two tags, in any order

abbrev pub AreSameTwo : ℕ → ℕ → ℕ → ℕ → Type 0
AreSameTwo a b c d = (a ≡ c × b ≡ d) ⊎ (a ≡ d × b ≡ c)

so_told : (two : Bool) (a b : ℕ) (t : TaggedRace) → is_so two a b t ≡ true → AreSameTwo t.tag t.other a b × (two ≡ true → AreOfTwoGroups (t.race.first, t.race.second))
so_told two a b t so = (grind (arith, nat_tests, so), λ is. grind (arith, nat_tests, so, is))

-- ---- lists

pairs_first : {X : Type 0} (R : X → X → Type 0) (x : X) (xs : List X) → AllPairs R (x ∷ xs) → (z : X) → Contains xs z → R x z
pairs_first R x xs pairs z there = subst (R x) there.2 (pairs 0 (suc there.0) z (omega arith) (omega (arith, there.1)))

pairs_rest : {X : Type 0} (R : X → X → Type 0) (x : X) (xs : List X) → AllPairs R (x ∷ xs) → AllPairs R xs
pairs_rest R x xs pairs i j d lt within = pairs (suc i) (suc j) d (omega (arith, lt)) (omega (arith, within))

pairs_append : {X : Type 0} (R : X → X → Type 0) (xs ys : List X) → AllPairs R xs → AllPairs R ys → ((x y : X) → Contains xs x → Contains ys y → R x y) → AllPairs R (xs ++ ys)
pairs_append R [] ys of_xs of_ys across = of_ys
pairs_append {X} R (x ∷ xs) ys of_xs of_ys across =
    AllPairs-cons R x (xs ++ ys)
    (All-append (R x) xs ys (λ k d lt. pairs_first R x xs of_xs (get_or xs k d) (Contains-get_or xs k d lt)) (λ k d lt. across x (get_or ys k d) (Contains-first x xs) (Contains-get_or ys k d lt)))
    (pairs_append R xs ys (pairs_rest R x xs of_xs) of_ys (λ (a b : X) in_xs. across a b (Contains-rest x xs a in_xs)))

-- ---- the races of one word

abbrev pub race_of : TaggedRace → Race
race_of t = t.race

-- a race for each two tags that race on the word
record AreOfWord (s : Streams) (tag_of : EventId → ℕ) (w : Word) (races : List Race) : Type 0 where
  pairs : All (λ r. IsRacePair s r.word (r.first, r.second)) races
  word : All (λ r. r.word ≡ w) races
  whole : (two : Bool) (a b : ℕ) (h : TagsRace s tag_of w a b) → (two ≡ true → AreOfTwoGroups h.pair) → HasRaceOfTags tag_of races two w a b
  apart : AllPairs (IsApart tag_of) races

module _ (s : Streams) (order : List EventId) (accesses : List ClockedAccess) (lawful : IsWholeOrder s order) (are : AreAccesses s order accesses) (tag_of : EventId → ℕ) where
  apart_tags : (w : Word) (t u : TaggedRace) → IsTaggedClash tag_of w accesses t → IsTaggedClash tag_of w accesses u → is_of_tags t.tag t.other u ≡ false → IsApart tag_of t.race u.race
  apart_tags w t u of_t of_u other = inr (of_t.word ∙ sym of_u.word, λ same. (let a = of_t.tags in let b = of_u.tags in grind (arith, nat_tests, other, a, b, same)))

  apart_races : (w : Word) (found : List TaggedRace) → ((t : TaggedRace) → Contains found t → IsTaggedClash tag_of w accesses t) → HaveOtherTags found → AllPairs (IsApart tag_of) (map race_of found)
  apart_races w found sound others i j d lt within =
      let none : TaggedRace = record { race = d; tag = 0; other = 0 } in
      let last : j < length found = omega (arith, within, length-map found race_of) in
      let first : i < length found = omega (arith, lt, last) in
      rw (get_or-map race_of found i none d first, get_or-map race_of found j none d last)
      (apart_tags w (get_or found i none) (get_or found j none) (sound _ (Contains-get_or found i none first)) (sound _ (Contains-get_or found j none last)) (others i j none lt last))

  of_word : {Z : Type 0} (w : Word) (pairs : TagPairs Z) → StandsForTags tag_of w accesses pairs → AreOfWord s tag_of w (map race_of pairs.found.items)
  of_word w pairs stands = record {
    pairs = All-map (λ (r : Race). IsRacePair s r.word (r.first, r.second)) race_of found (λ k d lt.
        let t = get_or found k d in
        let of = stands.sound t (Contains-get_or found k d lt) in
        rw of.word (clash_is_race s w order accesses lawful are (t.race.first, t.race.second) of.clash));
    word = All-map (λ (r : Race). r.word ≡ w) race_of found (λ k d lt. (stands.sound (get_or found k d) (Contains-get_or found k d lt)).word);
    whole = λ two a b h groups.
        let clash = race_is_clash s w order accesses lawful are h.pair h.race in
        let e = tag_of clash.earlier in
        let f = tag_of clash.later in
        let t = any_there (is_so two e f) found (stands.whole two clash.earlier clash.later clash.clash (let turned = clash.turned in grind (arith, nat_tests, groups, turned))) in
        let of = stands.sound t.0 t.1 in
        let told = so_told two e f t.0 t.2 in
        let a = of.tags in
        let b = told.0 in
        let k = clash.turned in
        let l = h.tags in
        record { race = t.0.race; there = mapped_there race_of found t.0 t.1; word = of.word; tags = grind (arith, a, b, k, l); groups = told.1 };
    apart = apart_races w found stands.sound stands.others;
  }
    where
      found : List TaggedRace
      found = pairs.found.items

  -- ---- the races of all words

  more_races : (w : Word) (words : List Word) (first rest : List Race) → ((v : Word) → Contains words v → WordBelow w v) → AreOfWord s tag_of w first → AreTagRaces s tag_of words rest → AreTagRaces s tag_of (w ∷ words) (first ++ rest)
  more_races w words first rest below of_first of_rest = record {
    pairs = All-append (λ (r : Race). IsRacePair s r.word (r.first, r.second)) first rest of_first.pairs of_rest.pairs;
    within = All-append (λ (r : Race). Contains (w ∷ words) r.word) first rest
        (All-weaker (λ (r : Race). r.word ≡ w) (λ (r : Race). Contains (w ∷ words) r.word) (λ r is. rw is (Contains-first w words)) first of_first.word)
        (All-weaker (λ (r : Race). Contains words r.word) (λ (r : Race). Contains (w ∷ words) r.word) (λ r there. Contains-rest w words r.word there) rest of_rest.within);
    whole = λ two v a b in_words h groups. ⊎_elim
        (λ (is : w ≡ v).
        let found = of_first.whole two a b (record { pair = h.pair; race = rw is h.race; tags = h.tags }) groups in
        record { race = found.race; there = Contains-append_left first rest found.race found.there; word = found.word ∙ is; tags = found.tags; groups = found.groups })
        (λ (later : Contains words v).
        let found = of_rest.whole two v a b later h groups in
        record { race = found.race; there = Contains-append_right first rest found.race found.there; word = found.word; tags = found.tags; groups = found.groups })
        (first_or_rest w words v in_words);
    apart = pairs_append (IsApart tag_of) first rest of_first.apart of_rest.apart
        (λ r q in_first in_rest. inl (rw (All-contains (λ (p : Race). p.word ≡ w) first r of_first.word in_first) (below q.word (All-contains (λ (p : Race). Contains words p.word) rest q of_rest.within in_rest))));
  }

  pub tag_races : {Z : Type 0} (entries : List (Word × TagPairs Z)) (words : List Word) → AllPairs WordBelow words → StandForWords tag_of words accesses entries → AreTagRaces s tag_of words (races_at entries words)
  tag_races entries [] ascending stand = record { pairs = λ k d lt. absurd (omega (arith, lt)); within = λ k d lt. absurd (omega (arith, lt)); whole = λ two w a b there h groups. absurd (omega (arith, there.1)); apart = λ i j d lt within. absurd (omega (arith, within)) }
  tag_races {Z} entries (w ∷ words) ascending stand =
      let h = stand w (Contains-first w words) in
      rw h.at (more_races w words (map race_of h.pairs.found.items) (races_at entries words) (pairs_first WordBelow w words ascending) (of_word w h.pairs h.stands) (tag_races entries words (pairs_rest WordBelow w words ascending) (λ v there. stand v (Contains-rest w words v there))))
