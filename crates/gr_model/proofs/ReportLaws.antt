-- Lists have one report.
use Rattle.gr_model.proofs.Common.{◌≡◌, ℕ, zero, suc, ◌<◌, All, List, [], ◌∷◌, length, slice_index, map, refl, sym, ◌∙◌, arith, range_with_len, sum_by, sum_by-cons, All-append, All-head, All-map, All-nil, All-tail, get_or-range_with_len, length-range_with_len}
use Rattle.std.specs.List.{flat_map}
use Rattle.std.proofs.lemmas.List.Concat.{flat_map-cons}
use Rattle.gr_model.specs.Prelude.{IsNumberOf, DivergenceBelow, IsCut, IsDivergence, IsReportOf, IsUnmatchedEntry, UnmatchedBelow, WholeReport, WordBelow, IsRacy, HasItem, items_of, Streams, IsGrounded}
use Rattle.gr_model.proofs.AscendingLists.{one_list}

-- ---- numbers

number_one : (P : ℕ → Type 0) (bound m n : ℕ) → IsNumberOf P bound m → IsNumberOf P bound n → m ≡ n
number_one P zero m n a b = a ∙ sym b
number_one P (suc k) m n a b = grind (arith, number_one P k)

sum_same : {X : Type 0} (f g : X → ℕ) (xs : List X) → All (λ x. f x ≡ g x) xs → sum_by f xs ≡ sum_by g xs
sum_same f g [] same = refl
sum_same f g (x ∷ xs) same = grind (arith, sum_same f g xs, All-head (λ y. f y ≡ g y) x xs same, All-tail (λ y. f y ≡ g y) x xs same, sum_by-cons)

-- ---- the items of a shape

All-flat_map : {X Y : Type 0} (P : Y → Type 0) (f : X → List Y) (xs : List X) → All (λ x. All P (f x)) xs → All P (flat_map f xs)
All-flat_map P f [] all = All-nil P
All-flat_map P f (x ∷ xs) all = rw (flat_map-cons f x xs) (All-append P (f x) (flat_map f xs) (All-head (λ y. All P (f y)) x xs all) (All-flat_map P f xs (All-tail (λ y. All P (f y)) x xs all)))

items_are_there : (sizes : List ℕ) → All (HasItem sizes) (items_of sizes)
items_are_there sizes =
    All-flat_map (HasItem sizes) (λ g. map (λ i. record { group = g; item = i }) (range_with_len 0 (slice_index sizes g))) (range_with_len 0 (length sizes))
    (λ k d lt. All-map (HasItem sizes) _ _ (λ i e within. grind (arith, get_or-range_with_len, length-range_with_len)))

-- ---- the report

pub one_report : (s : Streams) (r q : WholeReport) → IsReportOf s r → IsReportOf s q → r ≡ q
one_report s r q a b =
    let races = one_list WordBelow (λ v w a b. grind arith) (IsRacy s (IsGrounded s)) r.races q.races a.races b.races in
    let divergences = one_list DivergenceBelow (λ d e a b. omega arith) (IsDivergence s) r.divergences q.divergences a.rest.divergences b.rest.divergences in
    let unmatched = one_list UnmatchedBelow (λ u v a b. omega arith) (IsUnmatchedEntry s) r.unmatched q.unmatched a.rest.unmatched b.rest.unmatched in
    let cut = one_list (λ g h. g < h) (λ g h a b. omega arith) (IsCut s) r.cut q.cut a.rest.cut b.rest.cut in
    grind (arith, races, divergences, unmatched, cut, sum_same, number_one, items_are_there)
