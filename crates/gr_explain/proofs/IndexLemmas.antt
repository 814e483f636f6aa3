-- The indices of an item's events, in ascending order.
use Rattle.gr_model.proofs.Common.{◌≡◌, ◌<◌, ◌≤◌, ◌⊎◌, ◌++◌, ◌∷◌, ◌↔◌, ◌∙◌, [], ℕ, IsTrue, List, MatchOption, Option, None, Some, length, sym, ap, arith, nat_tests, true, false, Any-from_list_any, list_any_at, list_any-append, Bor, HoldsAt, option_copied}
use Rattle.std.specs.Prelude.{ltb, slice_index_or}
use Rattle.std.specs.List.Sorted.{IsNonDecreasing, IsPartitionPoint, IsPermutation}
use Rattle.std.proofs.lemmas.List.Sorted.{list_any-IsPermutation}
use Rattle.std.specs.BTreeMap.{is_at}
use Rattle.std.specs.Ordering.{nat_cmp}
use Rattle.gr_explain.specs.Seen.{has_index}

-- an index that is among these is so at some place
at_place : (indices : List ℕ) (n : ℕ) → IsTrue (has_index indices n) → (k : ℕ) × (k < length indices) × (slice_index_or indices k n ≡ n)
at_place indices n has =
    let found = Any-from_list_any (is_at (nat_cmp n)) indices has in
    let same : found.1 ≡ n = grind (arith, nat_tests, found.4) in
    (found.0, found.2, ap (λ d. slice_index_or indices found.0 d) (sym same) ∙ found.3 ∙ same)

has_at : (indices : List ℕ) (k n : ℕ) → k < length indices → slice_index_or indices k n ≡ n → IsTrue (has_index indices n)
has_at indices k n below is = list_any_at (is_at (nat_cmp n)) indices k n below (grind (arith, nat_tests, is))

pub one_more : (indices moved : List ℕ) (i n : ℕ) → IsPermutation (indices ++ i ∷ []) moved → IsTrue (has_index moved n) ↔ ((n ≡ i) ⊎ IsTrue (has_index indices n))
one_more indices moved i n same = grind (arith, nat_tests, list_any-append, list_any-IsPermutation (is_at (nat_cmp n)) (indices ++ i ∷ []) moved same)

-- the index at the place where those below a number end is the least of the others
pub first_at : (indices : List ℕ) (least place : ℕ) (found : Option (Bor ℕ)) → IsPartitionPoint (λ n. ltb n least ≡ true) (λ n. ltb n least ≡ false) indices place → IsNonDecreasing indices → MatchOption found (length indices ≤ place) (λ i. (place < length indices) × HoldsAt (λ n. i.now ≡ n) indices place) → MatchOption (option_copied found) ((n : ℕ) → IsTrue (has_index indices n) → n < least) (λ i. IsTrue (has_index indices i) × (least ≤ i) × ((n : ℕ) → IsTrue (has_index indices n) → least ≤ n → i ≤ n))
first_at indices least place None point up past = λ n has.
    let at = at_place indices n has in
    grind (arith, nat_tests, at.1, at.2, past, point.0 at.0 n)
first_at indices least place (Some i) point up is =
    let from : least ≤ i.now = grind (arith, nat_tests, is.0, is.1 i.now, point.1 place i.now) in (
      has_at indices place i.now is.0 (sym (is.1 i.now)),
      from,
      λ n has least_n.
          let at = at_place indices n has in
          grind (arith, nat_tests, at.1, at.2, point.0 at.0 n, up place at.0 n, is.1 n),
    )
