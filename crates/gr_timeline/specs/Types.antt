-- The types, variants and constants that definitions and proofs cite most, passed on from one place. Declares nothing.
pub use Rattle.gr_order.specs.Types.{Event, EventId, ItemId, MOST_RECORDS, Name, Word}
pub use Rattle.gr_timeline.specs.declared.counting.Count.{Count}
pub use Rattle.gr_timeline.specs.declared.details.Details.{Details}
pub use Rattle.gr_timeline.specs.declared.entry.Entry.{Entry}
pub use Rattle.gr_timeline.specs.declared.reason.Link.{Link}
pub use Rattle.gr_timeline.specs.declared.reason.Reason.{Reason}
pub use Rattle.gr_timeline.specs.declared.reason.Reason.TheVariants.{Absent, Barrier, Behind, Circle, OtherWord, Release}
