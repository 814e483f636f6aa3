-- What stands for the accesses of a launch, one after another along an order of its events.
-- Source: docs/MODEL.md, "Steps" and "Hits".
use Rattle.std.specs.Prelude.{List, [], ◌∷◌, Some}
use Rattle.gr_model.specs.declared.event.EventId.{EventId}
use Rattle.gr_model.specs.Prelude.{IsLawful, IsWholeOrder, Streams}
use Rattle.gr_clocks.specs.ClockedAccess.{ClockedAccess, clocked}
use Rattle.gr_closure.specs.AccessesAlong.{AreAccesses}
use Rattle.gr_order.specs.Sequences.{Sequence}
use Rattle.gr_sequencer.specs.declared.handled.Handled.{Handled}
use Rattle.gr_sequencer.specs.declared.handled.Handled.TheVariants.{One}

-- the accesses of a step: one at most
abbrev pub accesses_of : {Z : Type 0} → Handled Z → List ClockedAccess
accesses_of (One e (Some a)) = clocked a ∷ []
accesses_of _ = []

-- a value stands for the accesses of the handled events
abbrev pub IsAlong : {X : Type 0} → (List ClockedAccess → X → Type 0) → Sequence → X → Type 0
IsAlong Stands q x = (accesses : List ClockedAccess) × AreAccesses q.taken q.handled accesses × Stands accesses x

-- it stands for those of a lawful order of some of the grounded events
pub record IsAlongSome {X : Type 0} (Stands : List ClockedAccess → X → Type 0) (s : Streams) (x : X) : Type 0 where
  pub order : List EventId
  pub lawful : IsLawful s order
  pub accesses : List ClockedAccess
  pub are : AreAccesses s order accesses
  pub stands : Stands accesses x

-- it stands for those of a lawful order of all grounded events
pub record IsAlongWhole {X : Type 0} (Stands : List ClockedAccess → X → Type 0) (s : Streams) (x : X) : Type 0 where
  pub order : List EventId
  pub whole : IsWholeOrder s order
  pub accesses : List ClockedAccess
  pub are : AreAccesses s order accesses
  pub stands : Stands accesses x
