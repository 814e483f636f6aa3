-- The types, variants and constants that definitions and proofs cite most, passed on from one place. Declares nothing.
pub use Rattle.gr_detector.specs.declared.error.FinishError.{FinishError}
pub use Rattle.gr_intake.specs.Types.{Event, Fault, HEADER_LENGTH, Header, MOST_RECORDS, RecordError}
pub use Rattle.gr_model.specs.declared.event.Kind.{Kind}
pub use Rattle.gr_model.specs.declared.event.Kind.TheVariants.{Barrier, End, Load, Read, Rmw, Store, Write}
pub use Rattle.gr_record.specs.declared.part.Part.{Part}
pub use Rattle.gr_record.specs.declared.stop.Stop.TheVariants.{AtEnd, AtFault, Inside}
pub use Rattle.gr_streams.specs.declared.forward.Ended.{Ended}
pub use Rattle.gr_streams.specs.declared.source.Source.{Source}
pub use Rattle.gr_streams.specs.declared.source.Unread.{Unread}
