-- Names in their places: what is read from the bytes of names, and what the bytes of names that were read are.
use Rattle.gr_model.proofs.Common.{◌≡◌, ℕ, zero, suc, ◌+◌, ◌*◌, ◌<◌, ◌≤◌, true, false, List, [], ◌∷◌, ◌++◌, length, take, drop, refl, arith, inl, inr, All, ◌==◌, ◌↔◌, suc-add, get_or-drop, eqb-true, leb-true, le-leb, and_parts, and_from, cases_Bool, nat_tests, All-cons, All-nil, All-tail}
use Rattle.gr_record.specs.Prelude.{Name, Kind, MOST_GROUPS, MOST_ITEMS_OF_A_GROUP, Version, places, record_length, most_groups, most_items, IsHeader, names_bytes, AreBytes, are_unused, name_in, names_in, field, is_in_range, is_below, are_in_order, is_naming_ok, Header}
use Rattle.gr_model.specs.Prelude.{IsNamingOk, IsNameInRange, IsNameWithin, AreAscending, AreNamesWithin, is_acquire_kind}
use Rattle.gr_model.proofs.Bounds.{names_within}
use Rattle.gr_record.proofs.Numbers.{two, two_again, four, four_again}

pub bytes_drop : (n : ℕ) (bytes : List ℕ) → AreBytes bytes → AreBytes (drop n bytes)
bytes_drop n bytes h i = rw get_or-drop (h (n + i))

pub names_length : (n : ℕ) (names : List Name) → length (names_bytes n names) ≡ 8 * n
names_length zero names = refl
names_length (suc n) [] = let ih = names_length n [] in omega arith
names_length (suc n) (name ∷ names) = let ih = names_length n names in omega arith

-- ---- from bytes to names and back

-- the bytes of one place more
eight_more : (n : ℕ) → 8 * suc n ≡ suc (suc (suc (suc (suc (suc (suc (suc (8 * n))))))))
eight_more n = omega arith

unused_prefix : (n : ℕ) (bytes : List ℕ) → AreBytes bytes → 8 * n ≤ length bytes → are_unused n bytes ≡ true → take (8 * n) bytes ≡ names_bytes n []
unfolding are_unused
unused_prefix zero bytes fits has h = refl
unused_prefix (suc n) (a0 ∷ a1 ∷ a2 ∷ a3 ∷ a4 ∷ a5 ∷ a6 ∷ a7 ∷ rest) fits has h =
    let p = and_parts (field 0 8 (a0 ∷ a1 ∷ a2 ∷ a3 ∷ a4 ∷ a5 ∷ a6 ∷ a7 ∷ rest) == 18446744073709551615) _ h in
    let k : (a0 ≡ 255) × (a1 ≡ 255) × (a2 ≡ 255) × (a3 ≡ 255) × (a4 ≡ 255) × (a5 ≡ 255) × (a6 ≡ 255) × (a7 ≡ 255)
    = omega (arith, eqb-true _ _ p.0, fits 0, fits 1, fits 2, fits 3, fits 4, fits 5, fits 6, fits 7) in
    let ih = unused_prefix n rest (bytes_drop 8 (a0 ∷ a1 ∷ a2 ∷ a3 ∷ a4 ∷ a5 ∷ a6 ∷ a7 ∷ rest) fits) (omega arith) p.1 in
    rw (eight_more n, k.0, k.1, k.2, k.3, k.4, k.5, k.6, k.7, ih) refl
unused_prefix (suc n) _ fits has h = absurd (omega arith)

-- what so many places have spells the bytes of these places
pub names_prefix : (n : ℕ) (bytes : List ℕ) → AreBytes bytes → 8 * n ≤ length bytes → take (8 * n) bytes ≡ names_bytes n (names_in n bytes)
unfolding names_in name_in
names_prefix zero bytes fits has = refl
names_prefix (suc n) (a0 ∷ a1 ∷ a2 ∷ a3 ∷ a4 ∷ a5 ∷ a6 ∷ a7 ∷ rest) fits has =
    let bytes : List ℕ = a0 ∷ a1 ∷ a2 ∷ a3 ∷ a4 ∷ a5 ∷ a6 ∷ a7 ∷ rest in
    let ih = names_prefix n rest (bytes_drop 8 bytes fits) (omega arith) in
    let i = two a0 a1 (fits 0) (fits 1) in
    let j = two a2 a3 (fits 2) (fits 3) in
    let w = four a4 a5 a6 a7 (fits 4) (fits 5) (fits 6) (fits 7) _ refl in
    elim (cases_Bool (are_unused (suc n) bytes)) [
      | inl unused ↦ rw unused (unused_prefix (suc n) bytes fits has unused)
      | inr used ↦ rw (used, eight_more n, i.0, i.1, j.0, j.1, w.0, w.1, w.2, w.3, ih) refl
    ]
names_prefix (suc n) _ fits has = absurd (omega arith)

pub names_few : (n : ℕ) (bytes : List ℕ) → length (names_in n bytes) ≤ n
unfolding names_in
names_few zero bytes = omega arith
names_few (suc n) bytes = grind (arith, names_few n (drop 8 bytes))

-- ---- names that one acquire may have

-- a name of a launch of this version
abbrev pub IsNameOf : Version → Name → Type 0
IsNameOf v n = IsNameWithin (most_groups v) (most_items v) n

pub groups_within : (v : Version) → most_groups v ≤ MOST_GROUPS
groups_within v = grind arith

pub items_within : (v : Version) → most_items v ≤ MOST_ITEMS_OF_A_GROUP
items_within v = grind arith

pub fields_and_names : (v : Version) → 12 + 8 * places v ≡ record_length v
fields_and_names v = grind arith

-- of whatever version, a header's group and items are those that some launch may have
pub header_group : (h : Header) → IsHeader h → h.group < MOST_GROUPS
header_group h is = omega (arith, is.group, groups_within h.version)

pub header_items : (h : Header) → IsHeader h → h.items ≤ MOST_ITEMS_OF_A_GROUP
header_items h is = omega (arith, is.items, items_within h.version)

ascending_found : (v : Version) (names : List Name) → are_in_order v names ≡ true → AreAscending names
ascending_found v [] h k d lt = absurd (omega arith)
ascending_found v (n ∷ []) h k d lt = absurd (omega arith)
ascending_found v (n ∷ m ∷ names) h zero d lt = grind (arith, nat_tests)
ascending_found v (n ∷ m ∷ names) h (suc k) d lt = rw (suc-add k 1) (ascending_found v (m ∷ names) (and_parts _ _ h).1 k d (omega arith))

each_found : (v : Version) (names : List Name) → are_in_order v names ≡ true → All (IsNameOf v) names
each_found v [] h = All-nil (IsNameOf v)
each_found v (n ∷ names) h = All-cons (IsNameOf v) n names (grind (arith, nat_tests)) (each_found v names (and_parts _ _ h).1)

-- names of a launch of this version
pub those_found : (v : Version) (kind : Kind) (n : Name) (names : List Name) → is_naming_ok v kind (n ∷ names) ≡ true → AreNamesWithin (most_groups v) (most_items v) (n ∷ names)
those_found v kind n names h =
    let a = and_parts _ _ h in
    record { few = leb-true _ _ (and_parts _ _ a.0).1; ascending = ascending_found v (n ∷ names) a.1; each = each_found v (n ∷ names) a.1 }

pub naming_found : (v : Version) (kind : Kind) (names : List Name) → is_naming_ok v kind names ≡ true → IsNamingOk kind names × All (IsNameOf v) names
naming_found v kind [] h = (tt, λ k d lt. absurd (omega arith))
naming_found v kind (n ∷ names) h =
    let those = those_found v kind n names h in
    (((and_parts _ _ (and_parts _ _ h).0).0, names_within (most_groups v) (most_items v) (groups_within v) (items_within v) (n ∷ names) those), those.each)

-- ---- and back

range_back : (v : Version) (n : Name) → IsNameOf v n → is_in_range v n ≡ true
range_back v n ok = grind (arith, nat_tests)

pub order_back : (v : Version) (names : List Name) → AreAscending names → All (IsNameOf v) names → are_in_order v names ≡ true
order_back v [] ascending each = refl
order_back v (n ∷ []) ascending each = grind (arith, range_back v n (each 0 n (omega arith)))
order_back v (n ∷ m ∷ names) ascending each =
    let later : AreAscending (m ∷ names) = λ k d lt. rw (suc-add k 1) at (ascending (suc k) d (omega arith)) in
    let below : is_below n m ≡ true = let b = ascending 0 n (omega arith) in grind (arith, nat_tests, b) in
    grind (arith, range_back v n (each 0 n (omega arith)), below, order_back v (m ∷ names) later (All-tail (IsNameOf v) n (m ∷ names) each))

pub naming_back : (v : Version) (kind : Kind) (names : List Name) → IsNamingOk kind names → All (IsNameOf v) names → is_naming_ok v kind names ≡ true
naming_back v kind names ok range = grind (arith, nat_tests, order_back v names)

-- ---- from names to bytes and back

unused_back : (n : ℕ) (rest : List ℕ) → are_unused n (names_bytes n [] ++ rest) ≡ true
unfolding are_unused
unused_back zero rest = refl
unused_back (suc n) rest = unused_back n rest

pub names_again : (n : ℕ) (names : List Name) (rest : List ℕ) → length names ≤ n → All IsNameInRange names → names_in n (names_bytes n names ++ rest) ≡ names
unfolding names_in name_in are_unused
names_again zero [] rest few each = refl
names_again zero (name ∷ names) rest few each = absurd (omega arith)
names_again (suc n) [] rest few each = rw (unused_back (suc n) rest) refl
names_again (suc n) (name ∷ names) rest few each =
    let here = each 0 name (omega arith) in
    let used : are_unused (suc n) (names_bytes (suc n) (name ∷ names) ++ rest) ≡ false = grind (arith, nat_tests, here) in
    let ih = names_again n names rest (omega arith) (All-tail IsNameInRange name names each) in
    rw (used, two_again name.at.group (omega (arith, here)), two_again name.at.item (omega (arith, here)), four_again name.release (omega (arith, here)), ih) refl

pub each_in_range : (kind : Kind) (names : List Name) → IsNamingOk kind names → All IsNameInRange names
each_in_range kind [] ok k d lt = absurd (omega arith)
each_in_range kind (n ∷ names) ok k d lt = ok.1.each k d lt

-- ---- places that are not used

pub names_none : (n : ℕ) (bytes : List ℕ) → are_unused n bytes ≡ true → names_in n bytes ≡ []
unfolding names_in
names_none n bytes unused = grind arith

pub few_names : (kind : Kind) (names : List Name) → IsNamingOk kind names → length names ≤ 4
few_names kind names ok = grind arith

-- ---- names that a call makes

-- an acquire may have the names that a call makes, and no others
pub naming_is : (v : Version) (kind : Kind) (names : List Name) → is_acquire_kind kind ≡ true → (is_naming_ok v kind names ≡ is_naming_ok v kind names) × (is_naming_ok v kind names ≡ true ↔ AreNamesWithin (most_groups v) (most_items v) names)
naming_is v kind [] acquire = (refl, (λ _. record { few = omega arith; ascending = λ k d lt. absurd (omega arith); each = All-nil (IsNameOf v) }, λ _. refl))
naming_is v kind (n ∷ names) acquire =
    (refl, (those_found v kind n names, λ those. and_from _ _ (and_from _ _ acquire (le-leb _ _ those.few)) (order_back v (n ∷ names) those.ascending those.each)))
