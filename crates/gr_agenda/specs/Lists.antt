-- The list of the steps that may have become ready, and the lists of the items that wait.
use Rattle.std.specs.Prelude.{◌≡◌, ◌⊎◌, ℕ, ◌+◌, ◌*◌, ◌%◌, ◌<◌, Bool, true, List, [], ◌∷◌, ◌++◌, Some, Vec, IsTrue, slice_get}
use Rattle.gr_agenda.specs.Types.{ItemId, Name, Ready, Item, Group}

-- an element of a list
abbrev pub IsAmong : {X : Type 0} → List X → X → Type 0
IsAmong xs x = (p : ℕ) × (slice_get xs p ≡ Some x)

-- ---- steps

-- the steps, the last one the next to be looked at; and whether memory was too short for some step
pub record Steps : Type 0 where
  pub steps : List Ready
  pub short : Bool

-- a step is in the list; if some are missing, every step counts as there
abbrev pub Has : Steps → Ready → Type 0
Has t r = IsTrue t.short ⊎ IsAmong t.steps r

abbrev pub HasNone : Steps → Type 0
HasNone t = (r : Ready) → ¬ Has t r

abbrev pub IsLast : Steps → Ready → Type 0
IsLast t r = (before : List Ready) × (t.steps ≡ before ++ r ∷ [])

-- what was in the list is there
abbrev pub KeepsSteps : Steps → Steps → Type 0
KeepsSteps old new = (r : Ready) → Has old r → Has new r

-- ---- marks

-- the place of a step's mark
abbrev pub IsPlace : Ready → ℕ → Type 0
IsPlace (Item i) p = (i.item < 1024) × (p ≡ i.group * 1025 + 1 + i.item)
IsPlace (Group g) p = p ≡ g * 1025

-- a marked step is in the list
abbrev pub AreMarked : List Bool → List Ready → Type 0
AreMarked marks steps = (r : Ready) (p : ℕ) → IsPlace r p → slice_get marks p ≡ Some true → IsAmong steps r

-- ---- items that wait

-- the list for the items that wait for the release of this name; other names may share it
abbrev pub bucket_of : Name → ℕ
bucket_of n = (n.at.group + n.at.item * 67 + n.release * 257) % 2048

-- an item is in the list of those that wait for the release of this name
abbrev pub IsWaiting : {Z : Type 0} → List (Vec ItemId Z) → Name → ItemId → Type 0
IsWaiting {Z} lists named i = (list : Vec ItemId Z) × (slice_get lists (bucket_of named) ≡ Some list) × IsAmong list.items i
