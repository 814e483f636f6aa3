-- What is claimed about a text that is a rendering of an answer.
use Rattle.std.specs.Prelude.{ℕ, List}

-- there is a right answer; nothing is claimed about its text
pub record Renders {X : Type 0} (IsAnswer : X → Type 0) (text : List ℕ) : Type 0 where
  pub answer : X
  pub right : IsAnswer answer
