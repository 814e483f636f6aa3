-- What is kept of the events of one group's items: a window of each item, or none where no event waits.
use Rattle.std.specs.Prelude.{◌≡◌, ℕ, ◌-◌, ◌≤◌, List, [], ◌∷◌, ◌++◌, ◌⊎◌, length, replicate}
use Rattle.std.specs.List.{sum_by}
use Rattle.gr_model.specs.declared.event.Event.{Event}

-- windows of so many items: of those that have none no event waits
abbrev pub padded : ℕ → List (List Event) → List (List Event)
padded size windows = windows ++ replicate (size - length windows) []

-- the windows of so many items, where there were none
abbrev pub begun : ℕ → List (List Event) → List (List Event)
begun size [] = replicate size []
begun size (w ∷ windows) = w ∷ windows

-- 1 where events wait
abbrev pub waits : List Event → ℕ
waits [] = 0
waits (x ∷ events) = 1

-- the windows are those of items of the group, and it is counted in how many of them events wait
pub record IsRowKept (size busy : ℕ) (windows : List (List Event)) : Type 0 where
  pub few : length windows ≤ size
  pub whole : (windows ≡ []) ⊎ (length windows ≡ size)
  pub count : busy ≡ sum_by waits windows
