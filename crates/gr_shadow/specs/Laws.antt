-- What follows from the definition of a hit, as the contract of a function that does nothing.
use Rattle.std.specs.Prelude.{◌↔◌, Bool, IsTrue, List, filter}
use Rattle.gr_model.specs.declared.event.Word.{Word}
use Rattle.gr_clocks.specs.ClockedAccess.{ClockedAccess}
use Rattle.gr_shadow.specs.Clashes.{IsHitIn}

-- a word is hit in a list of accesses exactly where it is hit in those to any set of words that has it
abbrev pub HitsAreOfTheirWords : Type 0
HitsAreOfTheirWords = (keep : Word → Bool) (accesses : List ClockedAccess) (w : Word) → IsTrue (keep w) → IsHitIn accesses w ↔ IsHitIn (filter (λ x. keep x.word) accesses) w
