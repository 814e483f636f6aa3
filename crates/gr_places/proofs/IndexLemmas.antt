-- The index of lines, made from the last line to the first.
use Rattle.gr_model.proofs.Common.{◌≡◌, ◌<◌, ◌+◌, ℕ, cond, List, arith, Some, Bor, ap, drop, get_or, length, map, ◌∙◌, option_map, position_from}
use Rattle.std.proofs.lemmas.List.{drop_more}
use Rattle.gr_text.specs.LineReading.{same}
use Rattle.gr_places.specs.Types.{Placed, PlaceLine}
use Rattle.gr_places.specs.PlaceIndexes.{number_in, text_in}
use Rattle.gr_places.specs.SideLines.{PlaceSaid, place_line, place_of, same_placed}

-- the texts that are kept are the places that lines give
abbrev pub AreTexts : List (Placed × Bor (List ℕ)) → List PlaceSaid → Type 0
AreTexts entries lines = (p : Placed) → option_map (λ text. text.now) (text_in entries p) ≡ place_of lines p

-- the numbers that are kept are those of the texts of lines, from line n on
abbrev pub AreNumbersFrom : ℕ → List (Bor (List ℕ) × ℕ) → List PlaceSaid → Type 0
AreNumbersFrom n entries lines = (text : Bor (List ℕ)) → number_in entries text ≡ position_from (λ l. same l.text text.now) n lines

-- one more line, before those that are kept
module _ (lines : List PlaceLine) (i left : ℕ) (d : PlaceLine) (lt : i < length lines) (next : i + 1 ≡ left) where
  pub texts_more : (old new : List (Placed × Bor (List ℕ))) → ((p : Placed) → text_in new p ≡ cond (same_placed (get_or lines i d).of p) (Some (get_or lines i d).text) (text_in old p)) → AreTexts old (map place_line (drop left lines)) → AreTexts new (map place_line (drop i lines))
  texts_more old new update kept = rw (drop_more lines i d lt, next) (λ p. grind (arith, update p, kept p))

  pub numbers_more : (old new : List (Bor (List ℕ) × ℕ)) → ((t : Bor (List ℕ)) → number_in new t ≡ cond (same (get_or lines i d).text.now t.now) (Some i) (number_in old t)) → AreNumbersFrom left old (map place_line (drop left lines)) → AreNumbersFrom i new (map place_line (drop i lines))
  numbers_more old new update kept = rw (drop_more lines i d lt, next) (λ t. update t ∙ ap (cond (same (get_or lines i d).text.now t.now) (Some i)) (kept t))
