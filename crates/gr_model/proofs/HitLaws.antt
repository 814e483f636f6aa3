-- A word's hits are those of the accesses to it.
use Rattle.gr_model.proofs.Common.{◌≡◌, ◌↔◌, Bool, true, List, filter, ap, ◌∙◌}
use Rattle.gr_model.specs.declared.event.Word.{Word}
use Rattle.gr_model.specs.Prelude.{ClashesAt, IsHit}
use Rattle.gr_model.proofs.Pairs.{SomePair-filter}

-- a word is hit among some accesses where it is hit among those of any set of words that has it
pub IsHit-filter : {X : Type 0} (word : X → Word) (clash : X → X → Bool) (keep : Word → Bool) (xs : List X) (w : Word) → keep w ≡ true → IsHit word clash xs w ↔ IsHit word clash (filter (λ x. keep (word x)) xs) w
IsHit-filter {X} word clash keep xs w kept =
    SomePair-filter (λ x. keep (word x)) (ClashesAt word clash w) (λ x y c. (ap keep c.first ∙ kept, ap keep c.second ∙ kept)) xs
