-- What has a line is read from it.
use Rattle.gr_model.proofs.Common.{◌≡◌, ℕ, ◌^◌, ◌<◌, ◌≤◌, nat_tests, true, List, [], ◌∷◌, ◌++◌, length, zero, suc, All, Option, Some, None, refl, arith, decimal, codes}
use Rattle.gr_text.specs.Prelude.{Space, Kind, Name, Event, Version, Four, space_said, scope_said, flags_said, names_words, later_text, line_text, cut_at, same, IsWord, first_of, header_said, name_said, names_said, kind_said, atomic_said, barrier_said, event_said, line_said, TextIsRead}
use Rattle.gr_model.specs.Prelude.{IsNamingOk, IsKindOk, IsNameInRange}
use Rattle.gr_text.specs.declared.line.Line.TheVariants as lines
use Rattle.gr_record.specs.Prelude.{most_items, is_naming_ok}
use Rattle.gr_text.proofs.LineNumbers.{number_back}
use Rattle.gr_text.proofs.LineWords.{decimal_word, no_key, order_again, short_again, first_of_space, first_of_last}
use Rattle.gr_record.proofs.Places.{header_group, header_items, items_within, naming_back, few_names, each_in_range}

-- what comes after a word, where other words follow
abbrev tail_text : List (List ℕ) → Option (List ℕ)
tail_text [] = None
tail_text (w ∷ ws) = Some (w ++ later_text ws)

word_before : (word : List ℕ) (ws : List (List ℕ)) → IsWord word → first_of (word ++ later_text ws) ≡ (word, tail_text ws)
word_before word [] is = first_of_last word is
word_before word (w ∷ ws) is = first_of_space word (w ++ later_text ws) is

first_number : (n : ℕ) (rest : List ℕ) → n < 2 ^ 32 → first_of (decimal n ++ 32 ∷ rest) ≡ (decimal n, Some rest)
first_number n rest lt = first_of_space (decimal n) rest (decimal_word n lt)

last_number : (n : ℕ) → n < 2 ^ 32 → first_of (decimal n ++ []) ≡ (decimal n, None)
last_number n lt = first_of_last (decimal n) (decimal_word n lt)

name_again : (n : Name) (ws : List (List ℕ)) → n.at.group < 65535 → n.at.item < 1024 → n.release < 2 ^ 32 → name_said (codes "<" ++ later_text (decimal n.at.group ∷ decimal n.at.item ∷ decimal n.release ∷ ws)) ≡ Some (n, tail_text ws)
unfolding name_said cut_at same
name_again n ws group item release = grind (arith, nat_tests, first_number, word_before, decimal_word, short_again, number_back)

names_again : (names : List Name) (most : ℕ) → length names ≤ most → All IsNameInRange names → names_said (tail_text (names_words names)) most ≡ Some names
unfolding names_said
names_again [] most few each = refl
names_again (n ∷ names) zero few each = absurd (omega arith)
names_again (n ∷ names) (suc most) few each =
    let here = each 0 n (omega arith) in
    let ih = names_again names most (omega arith) (λ k d lt. each (suc k) d (omega arith)) in
    grind (arith, name_again n (names_words names), here, ih)

-- ---- the whole line

event_again : (v : Version) (item word : ℕ) (kind : Kind) (space : Space) (names : List Name) → item < most_items v → word < 2 ^ 32 → IsNamingOk kind names → is_naming_ok v kind names ≡ true → IsKindOk kind item space word
    → line_said v (line_text (lines.Event (record { item = item; kind = kind; space = space; word = word; names = names }))) ≡ Some (lines.Event (record { item = item; kind = kind; space = space; word = word; names = names }))
unfolding cut_at same space_said scope_said flags_said kind_said line_said event_said barrier_said atomic_said
event_again v item word kind space names lt fits naming named ok =
    let few = items_within v in
    let each = each_in_range kind names naming in
    let found = names_again names 4 (few_names kind names naming) each in
    grind (arith, nat_tests, first_number, last_number, no_key, short_again, number_back, word_before, order_again, found, naming_back Four kind names naming each)

pub text_is_read : TextIsRead
unfolding cut_at same line_said header_said
text_is_read v (lines.Header h) ok = grind (arith, nat_tests, first_number, word_before, decimal_word, short_again, number_back, header_group h ok, header_items h ok)
text_is_read v (lines.Event e) (ok, range) = event_again v e.item e.word e.kind e.space e.names ok.ok.0 ok.word ok.ok.1 (naming_back v e.kind e.names ok.ok.1 range) ok.ok.2
