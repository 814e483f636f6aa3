-- The types, variants and constants that definitions and proofs of texts cite, passed on from one place. Declares nothing.
pub use Rattle.gr_record.specs.Types.{Acquire, Barrier, Both, Device, End, Event, Global, Group, Kind, Load, Local, MOST_ITEMS_OF_A_GROUP, MOST_NAMES, MOST_RECORDS, Name, Order, Read, Relaxed, Release, Rmw, Scope, Space, Store, Write}
pub use Rattle.gr_record.specs.declared.error.RecordError.{RecordError}
pub use Rattle.gr_record.specs.declared.fault.Fault.{Fault}
pub use Rattle.gr_record.specs.declared.header.Header.{Header}
pub use Rattle.gr_record.specs.declared.header.Version.{Version}
pub use Rattle.gr_record.specs.declared.header.Version.TheVariants.{Four, One, Three, Two}
pub use Rattle.gr_record.specs.declared.layout.TheConstants.{HEADER_LENGTH}
pub use Rattle.gr_record.specs.declared.stop.Stop.{Stop}
pub use Rattle.gr_record.specs.declared.stop.Stop.TheVariants.{AtEnd}
pub use Rattle.gr_text.specs.declared.line.Line.{Line}
pub use Rattle.gr_text.specs.declared.line.SitedLine.{SitedLine}
pub use Rattle.gr_text.specs.declared.place.Place.{Place}
pub use Rattle.gr_text.specs.declared.place.Place.TheVariants.{Inside, Outside}
pub use Rattle.gr_text.specs.declared.forming.Form.{Form}
pub use Rattle.gr_text.specs.declared.forming.Form.TheVariants.{Long, Text}
