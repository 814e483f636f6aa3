-- The word of memory that a space and a number name, and the event that three numbers name, on a command line.
-- Source: docs/OUTPUT.md, "explain".
use Rattle.std.specs.Prelude.{◌≡◌, ◌<◌, ◌^◌, ◌++◌, ℕ, List, codes}
use Rattle.std.specs.Str.Parse.{IsNumeral, digits_value}
use Rattle.gr_model.specs.declared.event.EventId.{EventId}
use Rattle.gr_model.specs.declared.event.Word.{Word}
use Rattle.gr_model.specs.declared.event.Word.TheVariants.{Global, Local}
use Rattle.gr_model.specs.declared.limits.TheConstants.{MOST_GROUPS}

-- decimal digits, at least one, that write this number below 2^32
pub record IsNumber (text : List ℕ) (n : ℕ) : Type 0 where
  pub digits : IsNumeral 10 text
  pub value : digits_value 10 text ≡ n
  pub below : n < 2 ^ 32

-- an l, and the number of a group
pub record IsGroupOf (space : List ℕ) (g : ℕ) : Type 0 where
  pub number : List ℕ
  pub spelled : space ≡ codes "l" ++ number
  pub is : IsNumber number g
  pub below : g < MOST_GROUPS

-- the space and the number name the word
abbrev pub Names : List ℕ → List ℕ → Word → Type 0
Names space number (Global n) = (space ≡ codes "g") × IsNumber number n
Names space number (Local g n) = IsGroupOf space g × IsNumber number n

-- a number below 2^16
pub record IsShortNumber (text : List ℕ) (n : ℕ) : Type 0 where
  pub is : IsNumber text n
  pub below : n < 2 ^ 16

-- the three numbers are an event's group, item and index
pub record NamesEvent (group item index : List ℕ) (e : EventId) : Type 0 where
  pub group_is : IsShortNumber group e.at.group
  pub item_is : IsShortNumber item e.at.item
  pub index_is : IsNumber index e.index
