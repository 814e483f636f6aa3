-- The types, variants and constants that definitions and proofs cite most, passed on from one place. Declares nothing.
pub use Rattle.gr_text.specs.Types.{Event, Fault, Header, RecordError}
pub use Rattle.gr_record.specs.declared.error.RecordError.TheVariants.{AfterEnd}
