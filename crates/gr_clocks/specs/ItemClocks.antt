-- The clocks of a launch's work-items, one in each memory, and what an event does to them.
-- Source: docs/MODEL.md, "Clocks".
use Rattle.std.specs.Prelude.{◌≡◌, ℕ, Bool, true, false, ⊤, All, Any, List, [], ◌∷◌, filter, map, length}
use Rattle.gr_model.specs.declared.event.Space.{Space}
use Rattle.gr_model.specs.declared.event.Space.TheVariants.{Global, Local}
use Rattle.gr_model.specs.declared.event.Scope.{Scope}
use Rattle.gr_model.specs.declared.event.ItemId.{ItemId}
use Rattle.gr_model.specs.declared.event.Word.{Word}
use Rattle.gr_model.specs.declared.event.Word.TheVariants.{Global as GlobalWord, Local as LocalWord}
use Rattle.gr_model.specs.Prelude.{memory_of, put}
use Rattle.gr_clocks.specs.declared.clock.TheConstants.{LARGEST_COUNT}
use Rattle.gr_clocks.specs.Counts.{Counts, count_of, CountSame}
use Rattle.gr_clocks.specs.Tables.{ClockTable, clock_at, AddsItems, AreZero, IsItemFull, TicksItem, IsGroupFull, LearnsAndTicks, MeetsGroup}

-- the sizes of the groups, and the clocks of their items in each memory
pub record ItemClocks : Type 0 where
  pub sizes : List ℕ
  pub global : ClockTable
  pub local : ClockTable

abbrev pub clocks_in : ItemClocks → Space → ClockTable
clocks_in v Global = v.global
clocks_in v Local = v.local

-- the clock of an item in a memory
abbrev pub clock_in : ItemClocks → Space → ItemId → Counts
clock_in v m i = clock_at (clocks_in v m) i

-- new clocks of a shape, which have counted nothing
pub record AreNew (sizes : List ℕ) (v : ItemClocks) : Type 0 where
  pub shape : v.sizes ≡ sizes
  pub clocks : (m : Space) → AreZero sizes (clocks_in v m)

-- a group has so many items, whose clocks have counted nothing, and no other clock changes
pub record AddsGroup (old : ItemClocks) (group n : ℕ) (new : ItemClocks) : Type 0 where
  pub shape : new.sizes ≡ put 0 old.sizes group n
  pub tables : (m : Space) → AddsItems (clocks_in old m) group n (clocks_in new m)

-- an item's count of its own events is as great as it may be, in one of the memories
abbrev pub IsSpent : ItemClocks → ItemId → Type 0
IsSpent v i = (m : Space) × IsItemFull (clocks_in v m) i

-- some item of a group is
abbrev pub IsGroupSpent : ItemClocks → ℕ → Type 0
IsGroupSpent v group = (m : Space) × IsGroupFull (clocks_in v m) group

-- ---- events of one item

-- the item ticks in both memories
pub record Ticks (old : ItemClocks) (i : ItemId) (new : ItemClocks) : Type 0 where
  pub shape : new.sizes ≡ old.sizes
  pub ticks : (m : Space) → TicksItem (clocks_in old m) i (clocks_in new m)

-- what a release leaves: its word and scope, and its item's clock in that word's memory
pub record ReleaseClock : Type 0 where
  pub word : Word
  pub scope : Scope
  pub clock : Counts

-- what a release of the item leaves, where these are the clocks after it: all that its clock in the word's memory counts
pub record IsReleaseOf (v : ItemClocks) (i : ItemId) (w : Word) (s : Scope) (r : ReleaseClock) : Type 0 where
  pub word : r.word ≡ w
  pub scope : r.scope ≡ s
  pub counts : CountSame r.clock (clock_in v (memory_of w) i)

-- all releases are on one word
abbrev pub AreOfOneWord : List ReleaseClock → Type 0
AreOfOneWord [] = ⊤
AreOfOneWord (s ∷ releases) = All (λ t. t.word ≡ s.word) releases

-- some release's clock counts as many events of the item as there may be
abbrev pub AreSpent : List ReleaseClock → ItemId → Type 0
AreSpent releases i = Any (λ s. count_of s.clock i ≡ LARGEST_COUNT) releases

-- whether a word is of a memory
abbrev pub is_in : Space → Word → Bool
is_in Global (GlobalWord word) = true
is_in Global (LocalWord group word) = false
is_in Local (GlobalWord word) = false
is_in Local (LocalWord group word) = true

-- the clocks that were left by the releases on words of a memory
abbrev pub clocks_left : Space → List ReleaseClock → List Counts
clocks_left m releases = map (λ s. s.clock) (filter (λ s. is_in m s.word) releases)

-- the item learns what the releases left, in the memory of each one's word alone, and then ticks once in both
pub record Acquires (old : ItemClocks) (i : ItemId) (releases : List ReleaseClock) (new : ItemClocks) : Type 0 where
  pub shape : new.sizes ≡ old.sizes
  pub learns : (m : Space) → LearnsAndTicks (clocks_in old m) i (clocks_left m releases) (clocks_in new m)

-- ---- barriers

-- whether a barrier with these flags orders a memory
abbrev pub orders : Bool → Bool → Space → Bool
orders global local Global = global
orders global local Local = local

-- each item of the group ticks in both memories, and learns in each flagged one what all of them count
pub record MeetsClocks (old : ItemClocks) (group : ℕ) (global local : Bool) (new : ItemClocks) : Type 0 where
  pub shape : new.sizes ≡ old.sizes
  pub groups : (m : Space) → MeetsGroup (clocks_in old m) group (orders global local m) (clocks_in new m)

-- ---- two tables

-- the clocks of the same items in both memories
pub record AreOfOneShape (global local : ClockTable) : Type 0 where
  pub same : map length local ≡ map length global

abbrev pub clocks_of : ClockTable → ClockTable → ItemClocks
clocks_of global local = record { sizes = map length global; global = global; local = local }
