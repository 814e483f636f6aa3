-- The types, variants and constants that definitions and proofs cite most, passed on from one place. Declares nothing.
pub use Rattle.gr_intake.specs.declared.short.Short.{Short}
pub use Rattle.gr_record.specs.Types.{Event, MOST_ITEMS_OF_A_GROUP, MOST_RECORDS, Name}
pub use Rattle.gr_record.specs.declared.error.RecordError.{RecordError}
pub use Rattle.gr_record.specs.declared.error.RecordError.TheVariants.{TooManyRecords, Truncated}
pub use Rattle.gr_record.specs.declared.fault.Fault.{Fault}
pub use Rattle.gr_record.specs.declared.header.Header.{Header}
pub use Rattle.gr_record.specs.declared.layout.TheConstants.{HEADER_LENGTH}
