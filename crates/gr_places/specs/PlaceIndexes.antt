-- An index of the places that lines give.
-- Source: docs/FORMATS.md, "Side files".
use Rattle.std.specs.Prelude.{◌≡◌, ℕ, List, Option}
use Rattle.std.specs.Borrow.{Bor}
use Rattle.std.specs.Map.{lookup}
use Rattle.std.specs.Option.{option_and_then, option_map}
use Rattle.gr_text.specs.LineReading.{same}
use Rattle.gr_places.specs.declared.places.Placed.{Placed}
use Rattle.gr_places.specs.SideLines.{PlaceSaid, place_number, place_of, same_placed}

-- the text that is kept for an event or a site
abbrev pub text_in : List (Placed × Bor (List ℕ)) → Placed → Option (Bor (List ℕ))
text_in entries p = lookup (same_placed p) entries

-- the number that is kept for a text
abbrev pub number_in : List (Bor (List ℕ) × ℕ) → Bor (List ℕ) → Option ℕ
number_in entries text = lookup (λ other. same text.now other.now) entries

-- what is kept: the text of each event and site, and the number of each text
pub record Indexed : Type 0 where
  pub texts : List (Placed × Bor (List ℕ))
  pub numbers : List (Bor (List ℕ) × ℕ)

-- the place of an event or a site
abbrev pub place_at : Indexed → Placed → Option (List ℕ)
place_at i p = option_map (λ text. text.now) (text_in i.texts p)

-- the number of its place
abbrev pub number_at : Indexed → Placed → Option ℕ
number_at i p = option_and_then (number_in i.numbers) (text_in i.texts p)

-- an index is one of these lines
pub record Indexes (i : Indexed) (lines : List PlaceSaid) : Type 0 where
  pub places : (p : Placed) → place_at i p ≡ place_of lines p
  pub numbers : (p : Placed) → number_at i p ≡ place_number lines p
