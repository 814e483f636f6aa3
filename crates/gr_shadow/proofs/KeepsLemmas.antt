-- What is kept of a list of touches gives the same clashes.
use Rattle.gr_model.proofs.Common.{◌≡◌, ◌⊎◌, ◌↔◌, ℕ, zero, suc, ◌+◌, ◌<◌, ◌≤◌, All, Bool, true, false, ◌&&◌, ◌||◌, List, [], ◌∷◌, ◌++◌, length, get_or, slice_set, is_some, Some, Contains, drop, refl, sym, ◌∙◌, ap, arith, ⊎_elim, append_assoc, not, list_any, Contains-permutation, IsPermutation-sym, nat_tests, same_from_decides, append-nil, drop_all, drop_more, Any-from_list_any, list_any-append, list_any_at, All-tail, All-contains, All-contains_itself, All-weaker, Contains-append_left, Contains-append_right, Contains-append_cases, Contains-push, Contains-push_cases}
use Rattle.std.specs.List.{All, find}
use Rattle.std.specs.Bool.{MatchBool}
use Rattle.std.specs.List.Retain.{DedupsFrom, IsDeduped}
use Rattle.std.specs.List.Sorted.{IsPermutation}
use Rattle.gr_model.specs.declared.class.Class.{Class}
use Rattle.gr_model.specs.Prelude.{exempt}
use Rattle.gr_clocks.specs.ClockedAccess.{ClockedAccess}
use Rattle.gr_shadow.specs.declared.touch.Touch.{Touch}
use Rattle.gr_shadow.specs.Keeps.{touch_clashes, is_unseen, IsInPlaceOf, Keeps, TouchList, IsOfClass, all_touches}

-- ---- elements of which a test holds

pub Contains-first : {X : Type 0} (x : X) (xs : List X) → Contains (x ∷ xs) x
Contains-first x xs = Contains-append_left (x ∷ []) xs x (Contains-push [] x)

pub Contains-rest : {X : Type 0} (x : X) (xs : List X) (z : X) → Contains xs z → Contains (x ∷ xs) z
Contains-rest x xs z there = Contains-append_right (x ∷ []) xs z there

pub Contains-append : {X : Type 0} (xs ys : List X) (x : X) → Contains (xs ++ ys) x ↔ (Contains xs x ⊎ Contains ys x)
Contains-append xs ys x = (Contains-append_cases xs ys x, ⊎_elim (Contains-append_left xs ys x) (Contains-append_right xs ys x))

found : {X : Type 0} (f : X → Bool) (xs : List X) → list_any f xs ≡ true → (x : X) × Contains xs x × (f x ≡ true)
found f xs h = let any = Any-from_list_any f xs h in (any.1, (any.0, any.2, any.3), any.4)

pub finds : {X : Type 0} (f : X → Bool) (xs : List X) (x : X) → Contains xs x → f x ≡ true → list_any f xs ≡ true
finds f xs x there h = list_any_at f xs there.0 x there.1 (ap f there.2 ∙ h)

-- ---- the first element of which a test holds

pub find_told : {X : Type 0} (f : X → Bool) (xs : List X) → list_any f xs ≡ is_some (find f xs)
find_told f [] = refl
find_told f (x ∷ xs) = grind (arith, find_told f xs)

pub find_is : {X : Type 0} (f : X → Bool) (xs : List X) (x : X) → find f xs ≡ Some x → Contains xs x × (f x ≡ true)
find_is f [] x is = cc
find_is f (y ∷ xs) x is = grind (arith, find_is f xs x, Contains-first y xs, Contains-rest y xs x)

-- ---- what is kept gives the same clashes

-- where an access clashes with a touch, it does with one that represents it
later_clashes : (y : ClockedAccess) (t u : Touch) → IsInPlaceOf t u → touch_clashes y u ≡ true → touch_clashes y t ≡ true
later_clashes y t u p h = grind (arith, nat_tests, p.item, p.class, p.index)

pub clashes_kept : (y : ClockedAccess) (kept all : List Touch) → Keeps kept all → list_any (touch_clashes y) kept ≡ list_any (touch_clashes y) all
clashes_kept y kept all k = same_from_decides {P = list_any (touch_clashes y) all ≡ true} _ _ (to, from) (λ h. h, λ h. h)
  where
    to : list_any (touch_clashes y) kept ≡ true → list_any (touch_clashes y) all ≡ true
    to h = let t = found (touch_clashes y) kept h in finds (touch_clashes y) all t.0 (k.each t.0 t.1) t.2

    from : list_any (touch_clashes y) all ≡ true → list_any (touch_clashes y) kept ≡ true
    from h =
        let u = found (touch_clashes y) all h in
        let t = k.some u.0 u.1 in
        finds (touch_clashes y) kept t.0 t.1 (later_clashes y t.0 u.0 t.2 u.2)

-- ---- lists that are kept

in_place_of_itself : (t : Touch) → IsInPlaceOf t t
in_place_of_itself t = record { item = refl; class = refl; index = omega arith }

pub Keeps-same : (a b : List Touch) → ((t : Touch) → Contains a t → Contains b t) → ((t : Touch) → Contains b t → Contains a t) → Keeps a b
Keeps-same a b to from = record { each = to; some = λ u h. (u, from u h, in_place_of_itself u) }

pub Keeps-self : (a : List Touch) → Keeps a a
Keeps-self a = Keeps-same a a (λ t h. h) (λ t h. h)

pub Keeps-trans : (a b c : List Touch) → Keeps a b → Keeps b c → Keeps a c
Keeps-trans a b c k l = record {
  each = λ t h. l.each t (k.each t h);
  some = λ v h.
      let u = l.some v h in
      let t = k.some u.0 u.1 in
      (t.0, t.1, grind (arith, t.2, u.2));
}

pub Keeps-append : (a b c d : List Touch) → Keeps a b → Keeps c d → Keeps (a ++ c) (b ++ d)
Keeps-append a b c d k l = record {
  each = λ t h. ⊎_elim (λ p. Contains-append_left b d t (k.each t p)) (λ p. Contains-append_right b d t (l.each t p)) (Contains-append_cases a c t h);
  some = λ u h. ⊎_elim (λ p. let t = k.some u p in (t.0, Contains-append_left a c t.0 t.1, t.2)) (λ p. let t = l.some u p in (t.0, Contains-append_right a c t.0 t.1, t.2)) (Contains-append_cases b d u h);
}

swapped : (a b c : List Touch) (t : Touch) → Contains ((a ++ b) ++ c) t → Contains ((a ++ c) ++ b) t
swapped a b c t h = grind (arith, Contains-append (a ++ b) c t, Contains-append a b t, Contains-append (a ++ c) b t, Contains-append a c t)

-- one more touch, kept in the first or in the second of two lists
pub Keeps-first : (a b x r : List Touch) → Keeps a (b ++ x) → Keeps (a ++ r) ((b ++ r) ++ x)
Keeps-first a b x r k =
    Keeps-trans (a ++ r) ((b ++ x) ++ r) ((b ++ r) ++ x) (Keeps-append a (b ++ x) r r k (Keeps-self r)) (Keeps-same _ _ (swapped b x r) (swapped b r x))

pub Keeps-second : (a r s x : List Touch) → Keeps r (s ++ x) → Keeps (a ++ r) ((a ++ s) ++ x)
Keeps-second a r s x k = rw append_assoc (Keeps-append a a r (s ++ x) (Keeps-self a) k)

-- the same at a place of a list
pub Keeps-at : (ts : List Touch) (p : ℕ) (old new x : Touch) → p < length ts → old ≡ get_or ts p old → Keeps (new ∷ []) (old ∷ x ∷ []) → Keeps (slice_set ts p new) (ts ++ x ∷ [])
Keeps-at [] p old new x within at k = absurd (omega arith)
Keeps-at (t ∷ ts) zero old new x within at k = rw (sym at) (Keeps-first (new ∷ []) (old ∷ []) (x ∷ []) ts k)
Keeps-at (t ∷ ts) (suc p) old new x within at k = Keeps-second (t ∷ []) _ ts (x ∷ []) (Keeps-at ts p old new x (omega arith) at k)

-- of two touches the one that represents the other
only : (t u : Touch) → Contains (t ∷ []) u → t ≡ u
only t u h = ⊎_elim (λ none. absurd (omega (arith, none.1))) (λ same. same) (Contains-push_cases [] t u h)

pub Keeps-one : (t u : Touch) → IsInPlaceOf t u → Keeps (t ∷ []) (t ∷ u ∷ [])
Keeps-one t u stands = record {
  each = λ x h. Contains-append_left (t ∷ []) (u ∷ []) x h;
  some = λ x h. (t, Contains-first t [], ⊎_elim (λ p. rw (← only t x p) (in_place_of_itself t)) (λ p. rw (← only u x p) stands) (Contains-append_cases (t ∷ []) (u ∷ []) x h));
}

pub Keeps-other : (t u : Touch) → IsInPlaceOf t u → Keeps (t ∷ []) (u ∷ t ∷ [])
Keeps-other t u stands =
    Keeps-trans _ (t ∷ u ∷ []) _ (Keeps-one t u stands) (Keeps-same _ _ (swapped [] (t ∷ []) (u ∷ [])) (swapped [] (u ∷ []) (t ∷ [])))

-- what holds of all touches holds of those that are kept
pub All-kept : (P : Touch → Type 0) (kept all : List Touch) → Keeps kept all → All P all → All P kept
All-kept P kept all k of = All-weaker (Contains kept) P (λ t there. All-contains P all t of (k.each t there)) kept (All-contains_itself kept)

pub Keeps-permutation : (kept all : List Touch) → IsPermutation all kept → Keeps kept all
Keeps-permutation kept all moved = Keeps-same kept all (λ t h. Contains-permutation kept all t (IsPermutation-sym all kept moved) h) (λ t h. Contains-permutation all kept t moved h)

-- a step of a `dedup_by`: the touch that is kept takes the next one's part, or neither changes
abbrev pub IsTaking : Touch → Touch → Bool → Touch → Touch → Type 0
IsTaking next kept b next_after kept_after = MatchBool b (Keeps (kept_after ∷ []) (kept ∷ next ∷ [])) ((kept_after ≡ kept) × (next_after ≡ next))

pub taking : (next kept : Touch) (b : Bool) (next_after kept_after : Touch) → (b ≡ true → Keeps (kept_after ∷ []) (kept ∷ next ∷ [])) → (b ≡ false → kept_after ≡ kept) → next_after ≡ next → IsTaking next kept b next_after kept_after
taking next kept true next_after kept_after took other same = took refl
taking next kept false next_after kept_after took other same = (other refl, same)

module _ {S : Type 0} (R : S → Touch → Touch → Bool → S → Touch → Touch → Type 0) (takes : (s : S) (x k : Touch) (b : Bool) (t : S) (x' k' : Touch) → R s x k b t x' k' → IsTaking x k b x' k') where
  deduped : (s : S) (k : Touch) (xs ys : List Touch) → DedupsFrom R s k xs ys → Keeps ys (k ∷ xs)
  deduped s k [] ys is = rw is (Keeps-self (k ∷ []))
  deduped s k (x ∷ xs) ys (true, t, x', k', r, rest) =
      Keeps-trans ys (k' ∷ xs) (k ∷ x ∷ xs) (deduped t k' xs ys rest) (Keeps-append (k' ∷ []) (k ∷ x ∷ []) xs xs (takes s x k true t x' k' r) (Keeps-self xs))
  deduped s k (x ∷ xs) ys (false, t, x', k', r, (zs, more, is)) =
      let same = takes s x k false t x' k' r in
      rw (is, same.0) (Keeps-append (k ∷ []) (k ∷ []) zs (x ∷ xs) (Keeps-self (k ∷ [])) (rw (← same.1) (deduped t x' xs zs more)))

  pub Keeps-deduped : (s : S) (xs ys : List Touch) → IsDeduped R s xs ys → Keeps ys xs
  Keeps-deduped s [] ys is = let none : ys ≡ [] = is.told in rw none (Keeps-self [])
  Keeps-deduped s (x ∷ xs) ys is = deduped s x xs ys is.told

-- ---- lists of lists

pub Keeps-set : (lists : List TouchList) (p : ℕ) (old new : TouchList) (x : List Touch) → p < length lists → old ≡ get_or lists p old → Keeps new.touches (old.touches ++ x) → Keeps (all_touches (slice_set lists p new)) (all_touches lists ++ x)
Keeps-set [] p old new x within at k = absurd (omega arith)
Keeps-set (l ∷ lists) zero old new x within at k = rw (sym at) (Keeps-first new.touches old.touches x (all_touches lists) k)
Keeps-set (l ∷ lists) (suc p) old new x within at k = Keeps-second l.touches _ (all_touches lists) x (Keeps-set lists p old new x (omega arith) at k)

pub Keeps-push : (lists : List TouchList) (new : TouchList) (x : List Touch) → Keeps new.touches x → Keeps (all_touches (lists ++ new ∷ [])) (all_touches lists ++ x)
Keeps-push [] new x k = rw append-nil k
Keeps-push (l ∷ lists) new x k = Keeps-second l.touches _ (all_touches lists) x (Keeps-push lists new x k)

-- a test of the touches after the first lists
pub any_at : (f : Touch → Bool) (lists : List TouchList) (k : ℕ) (l : TouchList) → k < length lists → l ≡ get_or lists k l → list_any f (all_touches (drop k lists)) ≡ (list_any f l.touches || list_any f (all_touches (drop (k + 1) lists)))
any_at f lists k l lt is = rw (drop_more lists k l lt, ← is) (list_any-append f l.touches (all_touches (drop (k + 1) lists)))

pub any_nowhere : (f : Touch → Bool) (lists : List TouchList) (k : ℕ) → length lists ≤ k → list_any f (all_touches (drop k lists)) ≡ false
any_nowhere f lists k all = rw (drop_all k lists all) refl

-- ---- touches of one class

touch_told : (y : ClockedAccess) (c : Class) (g : ℕ) (t : Touch) → IsOfClass c g t → touch_clashes y t ≡ (not (exempt c g y.class y.item.group) && is_unseen y t)
touch_told y c g t of = grind (arith, of.apart, of.same)

-- of touches of one class an access clashes with none where it is exempt with them, and else with those that it has not seen
pub class_told : (y : ClockedAccess) (c : Class) (g : ℕ) (ts : List Touch) → All (IsOfClass c g) ts → list_any (touch_clashes y) ts ≡ (not (exempt c g y.class y.item.group) && list_any (is_unseen y) ts)
class_told y c g [] of = grind arith
class_told y c g (t ∷ ts) of = grind (arith, touch_told y c g t (of 0 t (omega arith)), class_told y c g ts (All-tail (IsOfClass c g) t ts of))
