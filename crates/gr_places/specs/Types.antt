-- The types, variants and constants that definitions and proofs cite most, passed on from one place. Declares nothing.
pub use Rattle.gr_text.specs.Types.{Event, Fault, Header, RecordError}
pub use Rattle.gr_model.specs.declared.event.Word.{Word}
pub use Rattle.gr_model.specs.declared.event.Word.TheVariants.{Global, Local}
pub use Rattle.gr_model.specs.declared.limits.TheConstants.{MOST_GROUPS, MOST_RECORDS}
pub use Rattle.gr_places.specs.declared.buffers.BufferLine.{BufferLine}
pub use Rattle.gr_places.specs.declared.counts.Counts.{Counts}
pub use Rattle.gr_places.specs.declared.counts.RecordKind.{RecordKind}
pub use Rattle.gr_places.specs.declared.places.PlaceLine.{PlaceLine}
pub use Rattle.gr_places.specs.declared.places.Placed.{Placed}
pub use Rattle.gr_places.specs.declared.sides_fault.SidesFault.{SidesFault}
pub use Rattle.gr_places.specs.declared.sides_fault.SidesFault.TheVariants.{Buffers, Places, Run}
pub use Rattle.gr_places.specs.declared.spot.Spot.{Spot}
