-- Runs of words with consecutive numbers.
-- Source: docs/OUTPUT.md, "races".
use Rattle.std.specs.Prelude.{ℕ, ◌+◌, Bool, false, ◌==◌, ◌&&◌, if◌then◌else◌, List, [], ◌∷◌}
use Rattle.gr_races.specs.Types.{Word, Run}
use Rattle.gr_model.specs.declared.event.Word.TheVariants.{Global, Local}
-- the number of a word in its memory
pub use Rattle.gr_places.specs.Naming.{number_of}

-- a word comes directly after a last one: it is of the same memory, and its number is the next
abbrev pub comes_next : Word → ℕ → Word → Bool
comes_next (Global m) last (Global n) = last + 1 == n
comes_next (Local g m) last (Local h n) = (g == h) && (last + 1 == n)
comes_next first last w = false

abbrev pub run_of : Word → Run
run_of w = record { first = w; last = number_of w }

abbrev pub with_word : Run → Word → Run
with_word r w = record { first = r.first; last = number_of w }

abbrev pub goes_on : Run → Word → Bool
goes_on r w = comes_next r.first r.last w

-- a run that has begun, and the runs of the words after it
abbrev pub runs_after : Run → List Word → List Run
runs_after r [] = r ∷ []
runs_after r (w ∷ words) = if goes_on r w then runs_after (with_word r w) words else r ∷ runs_after (run_of w) words

-- the runs of words in their order, each as long as can be
abbrev pub runs_of : List Word → List Run
runs_of [] = []
runs_of (w ∷ words) = runs_after (run_of w) words
