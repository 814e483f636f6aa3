-- When a later access to a word clashes with an earlier one.
-- Source: docs/MODEL.md, "Hits".
use Rattle.std.specs.Prelude.{◌≡◌, ℕ, Bool, ◌&&◌, not, nat_lt, List}
use Rattle.gr_model.specs.declared.event.EventId.{EventId}
use Rattle.gr_model.specs.declared.event.ItemId.{ItemId}
use Rattle.gr_model.specs.declared.event.Word.{Word}
use Rattle.gr_model.specs.Prelude.{ClashesAt, IsHit, SomePair, exempt}
use Rattle.gr_model.specs.declared.class.Class.{Class}
use Rattle.gr_clocks.specs.Rows.{same_item}
use Rattle.gr_clocks.specs.Counts.{count_of}
pub use Rattle.gr_clocks.specs.ClockedAccess.{ClockedAccess, clocked}

-- a later access clashes with an earlier one of this item, index and class: it is of another item, the two are not exempt,
-- and its clock does not count the earlier one
abbrev pub clashes_with : ItemId → ℕ → Class → ClockedAccess → Bool
clashes_with item index class y = not (same_item item y.item) && (not (exempt class item.group y.class y.item.group) && not (nat_lt index (count_of y.clock item)))

abbrev pub clashes : ClockedAccess → ClockedAccess → Bool
clashes x y = clashes_with x.item x.index x.class y

-- the word is hit in a list of accesses
abbrev pub IsHitIn : List ClockedAccess → Word → Type 0
IsHitIn accesses w = IsHit (λ x. x.word) clashes accesses w

abbrev pub event_of : ClockedAccess → EventId
event_of x = record { at = x.item; index = x.index }

-- y clashes on the word with x, an earlier access, and these are their events
pub record IsClashOf (w : Word) (e f : EventId) (x y : ClockedAccess) : Type 0 where
  pub clash : ClashesAt (λ x. x.word) clashes w x y
  pub earlier : event_of x ≡ e
  pub later : event_of y ≡ f

-- of two accesses of a list with these events the later one clashes on the word with the earlier one
abbrev pub IsClashIn : List ClockedAccess → Word → EventId → EventId → Type 0
IsClashIn accesses w e f = SomePair (IsClashOf w e f) accesses
