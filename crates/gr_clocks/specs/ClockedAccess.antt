-- An access with its clock, as a race test sees it: without its allocator.
-- Source: docs/MODEL.md, "Hits".
use Rattle.std.specs.Prelude.{ℕ}
use Rattle.gr_model.specs.declared.event.ItemId.{ItemId}
use Rattle.gr_model.specs.declared.event.Word.{Word}
use Rattle.gr_model.specs.declared.class.Class.{Class}
use Rattle.gr_clocks.specs.declared.access.Access.{Access}
use Rattle.gr_clocks.specs.Counts.{Counts}

-- an access, with what its item's clock counts in the word's memory
pub record ClockedAccess : Type 0 where
  pub word : Word
  pub item : ItemId
  pub index : ℕ
  pub class : Class
  pub clock : Counts

abbrev pub clocked : {Z : Type 0} → Access Z → ClockedAccess
clocked x = record { word = x.word; item = x.item; index = x.index; class = x.class; clock = x.clock.counts }

-- the same as an access again, whose clock is its item's, without an allocator
abbrev pub bare : ClockedAccess → Access (Unit {0})
bare x = record { word = x.word; item = x.item; index = x.index; class = x.class; clock = record { counts = x.clock; owner = x.item } }
