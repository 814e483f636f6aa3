-- From streams to the launch that they are of.
use mathlib.Core.List.{map-map}
use Rattle.gr_model.proofs.Common.{◌≡◌, ◌≢◌, ◌⊎◌, ℕ, zero, suc, ◌<◌, ◌≤◌, List, [], ◌∷◌, length, map, get_or, AllPairs, IsPermutation, Some, slice_get, sym, ap, ◌∙◌, subst, ⊎_elim, arith, eqb, eq-or-lt_of_le, option_map, inl, inr, cases_lt, Decides-eqb, get_or-map, get_or_default, length-map, Contains-get_or, IsPermutation-map, IsPermutation-sym, Contains-permutation, AllPairs-from_IsDistinct, IsDistinct-from_AllPairs, get_or_from_slice_get, slice_get-map}
use Rattle.std.proofs.lemmas.Map.Keys.{IsDistinct-IsPermutation}
use Rattle.std.specs.List.Sorted.{IsNonDecreasingBy}
use Rattle.gr_model.specs.Prelude.{Streams}
use Rattle.gr_replay.specs.Types.{Event}
use Rattle.gr_replay.specs.declared.joined.Stream.{Stream}
use Rattle.gr_model.proofs.HitsAreRaces.{eqb_swap}
use Rattle.gr_model.proofs.Places.{Contains-at}
use Rattle.gr_intake.specs.Joined.{Flat}
use Rattle.gr_replay.specs.InMemory.{flats}
use Rattle.gr_intake.specs.Launch.{IsLaunchOf, IsLeastMissing, AreApart, AreRising, ArePlaced}
use Rattle.gr_steps.proofs.Orders.{there_is}

-- what holds of the values of each two elements holds of each two values
pub AllPairs-map : {X Y : Type 0} (f : X → Y) (R : Y → Y → Type 0) (xs : List X) → AllPairs (λ a b. R (f a) (f b)) xs → AllPairs R (map f xs)
AllPairs-map f R [] h = λ i j d before within. absurd (omega arith)
AllPairs-map {X} f R (x ∷ xs) h = λ i j d before within.
    let last : j < length (x ∷ xs) = omega (arith, length-map (x ∷ xs) f) in
    let first : i < length (x ∷ xs) = omega arith in
    rw (get_or-map f (x ∷ xs) i x d first, get_or-map f (x ∷ xs) j x d last) (h i j x before last)

abbrev groups : List Flat → List ℕ
groups fs = map (λ f. f.header.group) fs

-- streams of different groups are so in any order
pub apart_permutation : (fs gs : List Flat) → IsPermutation fs gs → AreApart fs → AreApart gs
apart_permutation fs gs perm apart =
    let keys = IsPermutation-map (λ f. f.header.group) fs gs perm in
    let distinct = IsDistinct-IsPermutation eqb eqb_swap (groups fs) (groups gs) keys (IsDistinct-from_AllPairs Decides-eqb (groups fs) (AllPairs-map (λ f. f.header.group) (λ x y. x ≢ y) fs apart)) in
    let pairs = AllPairs-from_IsDistinct Decides-eqb (groups gs) distinct in
    λ i j d before within same.
    let last : j < length (groups gs) = omega (arith, length-map gs (λ (f : Flat). f.header.group)) in
    let first : i < length gs = omega arith in
    pairs i j d.header.group before last (get_or-map (λ f. f.header.group) gs i d d.header.group first ∙ (same ∙ sym (get_or-map (λ f. f.header.group) gs j d d.header.group within)))

-- streams in an order that never goes down, and of different groups, are in the order of their groups
pub rising_from : {X : Type 0} (f : X → Flat) (xs : List X) → IsNonDecreasingBy (λ x. (f x).header.group) xs → AreApart (map f xs) → AreRising (map f xs)
rising_from f xs up apart =
    AllPairs-map f (λ a b. a.header.group < b.header.group) xs
    (λ i j d before within.
    let last : j < length (map f xs) = omega (arith, length-map xs f) in
    let first : i < length xs = omega arith in
    let le = up i j d (omega arith) within in
    let ne : (f (get_or xs i d)).header.group ≢ (f (get_or xs j d)).header.group = λ same. apart i j (f d) before last (ap (λ x. x.header.group) (get_or-map f xs i d (f d) first) ∙ (same ∙ ap (λ x. x.header.group) (sym (get_or-map f xs j d (f d) within)))) in
    omega arith)

-- ---- the first gap

-- the group of the stream at a place, as the list that it was read from gives it
pub group_at : {X : Type 0} (f : X → Flat) (xs : List X) (p : ℕ) (x : X) → p < length xs → x ≡ get_or xs p x → (get_or (map f xs) p (f x)).header.group ≡ (f x).header.group
group_at f xs p x lt is = ap (λ y. y.header.group) (get_or-map f xs p x (f x) lt) ∙ ap (λ y. (f y).header.group) (sym is)

-- the streams below a place are each at the place of its group
abbrev pub PlacedBelow : List Flat → ℕ → Type 0
PlacedBelow fs p = (k : ℕ) (d : Flat) → k < p → (get_or fs k d).header.group ≡ k

module _ (fs : List Flat) (rising : AreRising fs) where
  pub at_least : (p : ℕ) (d : Flat) → p < length fs → PlacedBelow fs p → p ≤ (get_or fs p d).header.group
  at_least zero d lt placed = omega arith
  at_least (suc p) d lt placed = let up = rising p (suc p) d (omega arith) lt in let here = placed p d (omega arith) in omega arith

  pub gap : (p : ℕ) (d : Flat) → p < length fs → PlacedBelow fs p → (get_or fs p d).header.group ≢ p → IsLeastMissing fs p
  gap p d lt placed other =
      let least = at_least p d lt placed in
      record {
        below = (get_or fs p d, Contains-get_or fs p d lt, omega arith);
        missing = λ h. none h.0 h.1.0 h.1.1 (ap (λ f. f.header.group) h.1.2 ∙ h.2) (cases_lt h.1.0 p);
        least = λ h below. (get_or fs h d, Contains-get_or fs h d (omega arith), placed h d below);
      }
    where
      none : (f : Flat) (k : ℕ) → k < length fs → (get_or fs k f).header.group ≡ p → (k < p) ⊎ (p ≤ k) → ⊥
      none f k within is (inl below) = let here = placed k f below in omega arith
      none f k within is (inr above) =
          ⊎_elim
          (λ (same : p ≡ k). other (ap (λ x. x.header.group) (get_or_default fs p d f lt) ∙ (ap (λ n. (get_or fs n f).header.group) same ∙ is)))
          (λ (before : p < k). let up = rising p k f before within in let low = at_least p f lt placed in omega arith)
          (eq-or-lt_of_le above)

-- ---- the launch

-- each group's items and records, of streams that are each at the place of its group
abbrev pub launch_of : List Flat → Streams
launch_of fs = record { sizes = map (λ f. f.header.items) fs; lists = map (λ f. f.events) fs }

module _ (seen fs : List Flat) (perm : IsPermutation seen fs) (placed : ArePlaced fs) where
  pub is_launch : IsLaunchOf seen (launch_of fs)
  is_launch = record {
    count = length-map fs (λ f. f.events) ∙ sym (length-map fs (λ f. f.header.items));
    there = λ g lt.
        let within : g < length fs = omega (arith, length-map fs (λ (f : Flat). f.header.items)) in
        let at = there_is fs g within in
        let is = get_or_from_slice_get fs g at.0 at.0 at.1 in
        (at.0, Contains-permutation fs seen at.0 (IsPermutation-sym seen fs perm) (g, within, is), ap (λ f. f.header.group) (sym is) ∙ placed g at.0 within);
    each = λ f in_seen.
        let there = Contains-permutation seen fs f perm in_seen in
        let at : slice_get fs there.0 ≡ Some f = Contains-at fs f there in
        let group : there.0 ≡ f.header.group = sym (placed there.0 f there.1) ∙ ap (λ x. x.header.group) there.2 in (
          subst (λ k. slice_get (map (λ x. x.header.items) fs) k ≡ Some f.header.items) group (slice_get-map (λ x. x.header.items) fs there.0 ∙ ap (option_map (λ x. x.header.items)) at),
          subst (λ k. slice_get (map (λ x. x.events) fs) k ≡ Some f.events) group (slice_get-map (λ x. x.events) fs there.0 ∙ ap (option_map (λ x. x.events)) at),
        );
  }

-- ---- streams as they lie in memory

-- streams of these sizes and lists
abbrev pub these : List ℕ → List (List Event) → Streams
these sizes lists = record { sizes = sizes; lists = lists }

-- the sizes of streams and their lists, as a launch has them
pub launch_is : (xs : List Stream) (sizes : List ℕ) (lists : List (List Event)) → sizes ≡ map (λ s. s.header.items) xs → lists ≡ map (λ s. s.events) xs → these sizes lists ≡ launch_of (flats xs)
launch_is xs sizes lists is_sizes is_lists = grind (arith, map-map)

pub missing_permutation : (seen fs : List Flat) → IsPermutation seen fs → (g : ℕ) → IsLeastMissing fs g → IsLeastMissing seen g
missing_permutation seen fs perm g h =
    let back = IsPermutation-sym seen fs perm in
    record {
      below = (h.below.0, Contains-permutation fs seen h.below.0 back h.below.1, h.below.2);
      missing = λ has. h.missing (has.0, Contains-permutation seen fs has.0 perm has.1, has.2);
      least = λ k lt. let has = h.least k lt in (has.0, Contains-permutation fs seen has.0 back has.1, has.2);
    }
