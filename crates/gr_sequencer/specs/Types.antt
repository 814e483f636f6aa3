-- The types, variants and constants that definitions and proofs cite most, passed on from one place. Declares nothing.
pub use Rattle.gr_order.specs.Types.{Event, EventId, ItemId, LARGEST_COUNT, MOST_RECORDS, Name}
pub use Rattle.gr_model.specs.declared.event.Space.{Space}
pub use Rattle.gr_model.specs.declared.event.Space.TheVariants.{Global}
pub use Rattle.gr_sequencer.specs.declared.handled.Handled.{Handled}
pub use Rattle.gr_sequencer.specs.declared.handled.Handled.TheVariants.{Meet, One}
