-- The definitions of records and faults that other crates cite most, passed on from one place. Declares nothing.
unfoldable pub use Rattle.gr_record.specs.Decoding.{read_from}
pub use Rattle.gr_record.specs.Decoding.{Continues, GrowsAs, HasMemory, IsHeldOk, IsStanding, Reading, Standing, StandsFor, answer, close, closed, fresh, header_part, last_answer, missing, parts_of, reading, standing, standing_after, still, still_at, stop_behind, under, unit_length, units_in}
pub use Rattle.gr_record.specs.Faults.{IsOfReading, IsOfValues, stream_fault}
unfoldable pub use Rattle.gr_record.specs.Fronts.{records_at}
pub use Rattle.gr_record.specs.Fronts.{Records, behind, records_of, step}
pub use Rattle.gr_record.specs.InputFaults.{Fails, Gives, IsOutside}
pub use Rattle.gr_record.specs.Laws.{AreBytes, NoSpellingBeginsAnother, ReadHeaderIsSpelled, ReadIsSpelled, SpelledHeaderIsRead, SpelledIsRead}
pub use Rattle.gr_record.specs.PrefixLaws.{FaultStays, IsPrefix, IsReadingOf, ReadPrefixIsSpelled, Runs, SpelledPrefixIsRead, stop_after}
unfoldable pub use Rattle.gr_record.specs.Reading.{are_unused, bad_field_from, event_at, header_at, kind_of, name_in, names_in, site_at, space_at}
pub use Rattle.gr_record.specs.Reading.{are_in_order, bad_field, field, header_behind, is_below, is_field_ok, is_in_range, is_naming_ok, is_order_ok, names_at, naming, order_of, scope_of, space_of, unless_bad, unless_bad_names, version_of}
pub use Rattle.gr_record.specs.Sites.{IsSite, Sited, all_sited, events_of, sited, unsited}
pub use Rattle.gr_record.specs.Spelling.{AreNamesOf, IsEvent, IsHeader, IsRecord, bit, event_spelling, events_spelling, fields_bytes, header_spelling, kind_bytes, names_bytes, order_byte, place_bytes, scope_byte, space_byte, version_byte}
pub use Rattle.gr_record.specs.Versions.{has_sites, most_groups, most_items, places, record_length}
unfoldable pub use Rattle.gr_record.specs.WholeStreams.{front_header_at, front_records_at}
pub use Rattle.gr_record.specs.WholeStreams.{behind_records_at, stream_spelling, up_to, whole, ◌>>=◌}
pub use Rattle.gr_record.specs.Types.{Acquire, AtEnd, AtFault, Barrier, Both, Device, End, Event, FEW_GROUPS, FEW_ITEMS_OF_A_GROUP, Fault, Four, Global, Group, HEADER_LENGTH, Header, Inside, Kind, LONG_RECORD_LENGTH, Load, Local, MOST_GROUPS, MOST_ITEMS_OF_A_GROUP, MOST_NAMES, MOST_RECORDS, Name, One, Order, Part, RECORD_LENGTH, Read, RecordError, Relaxed, Release, Rmw, Scope, Space, Stop, Store, Three, Two, Version, Write}
