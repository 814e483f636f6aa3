-- Each race of a launch has a kind, and it is said whether there is one.
use Rattle.gr_model.proofs.Common.{suc, ◌≡◌, ◌↔◌, ℕ, true, false, List, [], ◌∷◌, ◌++◌, Option, None, Some, Contains, IsTrue, All, option_and_then, ap, arith, is_some, length, map, refl, sym, ◌∙◌, true≢false, AllPairs, if◌then◌else◌, filter_map, nat_lt, slice_get, ◌+◌, not, option_map, list_any, nat_tests, and_parts, false_from_ne_true, lt-ltb, ltb-true, All-cons, All-nil, Contains-permutation, IsPermutation-sym, list_any-append, list_any_at}
use Rattle.std.proofs.Math.Bool.{beq}
use Rattle.std.proofs.lemmas.List.Quantifiers.{all_pairs_push}
use Rattle.std.proofs.lemmas.List.Sorted.{IsPermutation-filter_both}
use Rattle.std.specs.List.{enumerate_from}
use Rattle.gr_races.specs.Types.{Account, Cause, Event, EventId, Kind, Word, Race, Placed, KindedRace, Operation, PlacedOperation, RaceKind}
use Rattle.gr_model.specs.Prelude.{event_word, word_if_access, word_in, IsRacy, AreRaces, Streams, event_at, word_at, IsGrounded}
use Rattle.gr_model.specs.declared.event.Kind.TheVariants as kinds
use Rattle.gr_model.specs.contracts.event.SpacePartialEq.TheImpl as spaces
use Rattle.gr_places.specs.PlaceIndexes.{Indexed, Indexes, number_at}
use Rattle.gr_places.specs.SideLines.{PlaceSaid, place_number}
use Rattle.gr_places.specs.declared.places.Placed.TheVariants as of_places
use Rattle.gr_races.specs.contracts.kinds.PlacedOperationPartialEq.TheImpl as placed
use Rattle.gr_races.specs.contracts.kinds.RaceKindEq.TheImpl.Laws as equal
use Rattle.gr_races.specs.Accounts.{IsAccountOf, account_said}
use Rattle.gr_races.specs.Causes.{IsPairOf}
use Rattle.gr_races.specs.Kinds.{all_kinded, by_tags, is_alike, kinded, operation_of, placed_at, same_kind, tag_at}
use Rattle.gr_races.specs.Listing.{in_order, kinds_after, kinds_of, with_kind}

-- the numbers that an index has are those that lines say
pub numbers_said : (i : Indexed) (lines : List PlaceSaid) → Indexes i lines → number_at i ≡ place_number lines
numbers_said i lines is = λ j p. is.numbers p j

-- ---- a launch has a racy word exactly if it has a race

pub race_said : (s : Streams) (racy : List Word) (n : ℕ) → AreRaces s racy → n ≡ length racy → IsTrue (nat_lt 0 n) ↔ ((w : Word) × IsRacy s (IsGrounded s) w)
race_said s [] n are same = (λ t. absurd (omega (arith, same, ltb-true 0 n t)), λ racy. absurd (omega (arith, ((are.exact racy.0).1 racy.1).1)))
race_said s (w ∷ racy) n are same = (λ _. (w, (are.exact w).0 (0, omega arith, refl)), λ _. lt-ltb 0 n (omega (arith, same)))

-- a word has an account exactly if it is racy
pub account_racy : {Z : Type 0} (s : Streams) (numbers : Placed → Option ℕ) (w : Word) (account : Option (Account Z)) → IsAccountOf s numbers w (option_map account_said account) → IsTrue (is_some account) ↔ IsRacy s (IsGrounded s) w
account_racy s numbers w None none = (λ no. absurd (true≢false (sym no)), λ racy. absurd (none racy))
account_racy s numbers w (Some a) is = (λ yes. let race = is.least.0 in (a.first, a.second, race.first, race.second, race.race), λ racy. refl)

-- ---- each race has a kind

some_operation : (k : Kind) (v w : Word) → word_if_access k v ≡ Some w → (a : Operation) × (operation_of k ≡ Some a)
some_operation (kinds.Barrier global local) v w is = cc
some_operation (kinds.End cut) v w is = cc
some_operation k v w is = (_, refl)

module _ (s : Streams) (numbers : Placed → Option ℕ) where
  placed_there : (e : EventId) (x : Event) (w : Word) → event_at s e ≡ Some x → word_at s e ≡ Some w → (p : PlacedOperation) × (placed_at s numbers e ≡ Some p)
  placed_there e x w at word =
      let is = some_operation x.kind (word_in x.space e.at.group x.word) w (sym (ap (option_and_then (event_word e.at.group)) at) ∙ word) in
      (record { operation = is.0; place = numbers (of_places.Event e) }, ap (option_map (λ (o : Operation). record { operation = o; place = numbers (of_places.Event e) })) (ap (option_and_then (λ (x : Event). operation_of x.kind)) at ∙ is.1))

  abbrev races_of : List Cause → List (ℕ × Race) → List Race
  races_of told races = map (λ (row : KindedRace). row.race) (filter_map (λ x. kinded s numbers (x.1, slice_get told x.0)) races)

  one_more : (told : List Cause) (n : ℕ) (r : Race) (rest : List (ℕ × Race)) (races : List Race) → IsPairOf s r → races_of told rest ≡ races → races_of told ((n, r) ∷ rest) ≡ by_tags (tag_at s numbers) r ∷ races
  one_more told n r rest races pair more =
      let may_race = pair.race.may_race in
      let a = placed_there r.first may_race.first r.word may_race.at_first may_race.word_first in
      let b = placed_there r.second may_race.second r.word may_race.at_second may_race.word_second in
      rw a.1 (rw b.1 (grind (arith, more)))

  kinds_from : (told : List Cause) (n : ℕ) (races : List Race) → All (IsPairOf s) races → races_of told (enumerate_from n races) ≡ map (by_tags (tag_at s numbers)) races
  kinds_from told n [] pairs = refl
  kinds_from told n (r ∷ races) pairs = one_more told n r (enumerate_from (n + 1) races) _ (pairs 0 r (omega arith)) (kinds_from told (n + 1) races (λ k d lt. pairs (suc k) d (omega (arith, lt))))

  pub every_race_has_a_kind : (races : List Race) (told : List Cause) → All (IsPairOf s) races → map (λ (row : KindedRace). row.race) (all_kinded s numbers races told) ≡ map (by_tags (tag_at s numbers)) races
  every_race_has_a_kind races told pairs = kinds_from told 0 races pairs

-- ---- races in order

pub each_race_is_in_order : (rows : List KindedRace) (row : KindedRace) → Contains (in_order rows) row ↔ Contains rows row
each_race_is_in_order rows row =
    let same = IsPermutation-filter_both (λ q. not (is_alike q.kind)) (λ q. is_alike q.kind) (λ q. grind arith) rows in
    (Contains-permutation (in_order rows) rows row (IsPermutation-sym rows (in_order rows) same), Contains-permutation rows (in_order rows) row same)

-- ---- each kind is listed once

distinct_with : (kinds : List RaceKind) (k : RaceKind) → AllPairs (λ k l. same_kind k l ≡ false) kinds → AllPairs (λ k l. same_kind k l ≡ false) (with_kind kinds k)
distinct_with kinds k distinct = elim (list_any (λ l. same_kind l k) kinds) as (λ b. list_any (λ l. same_kind l k) kinds ≡ b → AllPairs (λ k l. same_kind k l ≡ false) (if b then kinds else kinds ++ k ∷ [])) [
  | true ↦ λ is. distinct
  | false ↦ λ none. all_pairs_push (λ k l. same_kind k l ≡ false) kinds k distinct (λ i d lt. false_from_ne_true _ (λ t. true≢false (sym (list_any_at (λ l. same_kind l k) kinds i d lt t) ∙ none)))
] refl

distinct_after : (kinds : List RaceKind) (rows : List KindedRace) → AllPairs (λ k l. same_kind k l ≡ false) kinds → AllPairs (λ k l. same_kind k l ≡ false) (kinds_after kinds rows)
distinct_after kinds [] distinct = distinct
distinct_after kinds (row ∷ rows) distinct = distinct_after (with_kind kinds row.kind) rows (distinct_with kinds row.kind distinct)

-- a kind is one of these
abbrev pub HasKind : List RaceKind → RaceKind → Type 0
HasKind kinds k = IsTrue (list_any (λ l. same_kind l k) kinds)

has_after : (kinds : List RaceKind) (rows : List KindedRace) (k : RaceKind) → HasKind kinds k → HasKind (kinds_after kinds rows) k
has_after kinds [] k has = has
has_after kinds (row ∷ rows) k has = has_after (with_kind kinds row.kind) rows k (grind (arith, list_any-append))

each_listed : (kinds : List RaceKind) (rows : List KindedRace) → All (λ (row : KindedRace). HasKind (kinds_after kinds rows) row.kind) rows
each_listed kinds [] = All-nil (λ (row : KindedRace). HasKind kinds row.kind)
each_listed kinds (row ∷ rows) =
    All-cons (λ (other : KindedRace). HasKind (kinds_after kinds (row ∷ rows)) other.kind) row rows
    (has_after (with_kind kinds row.kind) rows row.kind (grind (arith, list_any-append, equal.laws-law.refl row.kind))) (each_listed (with_kind kinds row.kind) rows)

pub each_race_is_listed_once : (rows : List KindedRace) → AllPairs (λ k l. same_kind k l ≡ false) (kinds_of rows) × All (λ (row : KindedRace). HasKind (kinds_of rows) row.kind) rows
each_race_is_listed_once rows = (distinct_after [] rows (λ i j d before within. absurd (omega (arith, within))), each_listed [] rows)

-- ---- the same kinds are one

pub the_same_kinds_are_one : (k l : RaceKind) → IsTrue (same_kind k l) ↔ (k ≡ l)
the_same_kinds_are_one k l = (same, λ is. sym (ap (same_kind k) is) ∙ equal.laws-law.refl k)
  where
    same : same_kind k l ≡ true → k ≡ l
    same e =
        let p = and_parts ((spaces.eq-value).it k.space l.space) _ e in
        let q = and_parts ((placed.eq-value).it k.first l.first) _ p.1 in
        let r = and_parts ((placed.eq-value).it k.second l.second) _ q.1 in
        let t = and_parts (beq k.one_group l.one_group) _ r.1 in
        let first : k.first ≡ l.first = grind (arith, nat_tests, q.0) in
        let second : k.second ≡ l.second = grind (arith, nat_tests, r.0) in
        grind (arith, nat_tests, p.0, first, second, t.0, t.1)
