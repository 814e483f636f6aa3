-- A text as its lines.
-- Source: docs/FORMATS.md, "Text form".
use Rattle.std.specs.Prelude.{ℕ, List, [], ◌∷◌, ◌==◌, if◌then◌else◌}
use Rattle.std.specs.List.{onto_first}

-- the lines without their line feeds; the last one may have none
unfoldable pub lines_of : List ℕ → List (List ℕ)
lines_of [] = []
lines_of (b ∷ bytes) = if b == 10 then [] ∷ lines_of bytes else onto_first b (lines_of bytes)
