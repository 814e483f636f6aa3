-- Receipts in the order of their groups: each group has one.
use Rattle.gr_model.proofs.Common.{◌≡◌, ◌==◌, ◌<◌, ◌≤◌, ◌+◌, ℕ, List, [], ◌∷◌, length, get_or, suc, ◌∙◌, refl, arith, filter, nat_tests}
use Rattle.gr_route.specs.IntakeSeats.{Seat}
use Rattle.gr_detector.specs.Runs.{IsEachOnce}

-- they are of this group, and those after it
abbrev AreFrom : ℕ → List Seat → Type 0
AreFrom o rs = (k : ℕ) (d : Seat) → k < length rs → (get_or rs k d).group ≡ o + k

later : (o : ℕ) (r : Seat) (rs : List Seat) → AreFrom o (r ∷ rs) → AreFrom (o + 1) rs
later o r rs are k d lt = are (suc k) d (omega (arith, lt)) ∙ omega arith

abbrev count : ℕ → List Seat → ℕ
count g rs = length (filter (λ (r : Seat). r.group == g) rs)

none_before : (o g : ℕ) (rs : List Seat) → AreFrom o rs → g < o → count g rs ≡ 0
none_before o g [] are lt = refl
none_before o g (r ∷ rs) are lt = grind (arith, nat_tests, are 0 r, none_before (o + 1) g rs (later o r rs are))

once_from : (o g : ℕ) (rs : List Seat) → AreFrom o rs → o ≤ g → g < o + length rs → count g rs ≡ 1
once_from o g [] are from to = absurd (omega (arith, from, to))
once_from o g (r ∷ rs) are from to = grind (arith, nat_tests, are 0 r, none_before (o + 1) g rs (later o r rs are), once_from (o + 1) g rs (later o r rs are))

pub each_once : (n : ℕ) (rs : List Seat) → length rs ≡ n → ((k : ℕ) (d : Seat) → k < length rs → (get_or rs k d).group ≡ k) → IsEachOnce n rs
each_once n rs count are g lt = once_from 0 g rs (λ k d within. are k d within ∙ omega arith) (omega arith) (omega (arith, lt, count))
