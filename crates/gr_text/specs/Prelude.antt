-- The definitions of lines and texts that proofs and clauses cite most, passed on from one place. Declares nothing.
unfoldable pub use Rattle.gr_text.specs.Dumps.{stream_at, streams_at}
pub use Rattle.gr_text.specs.Dumps.{WholeStream, at_place, dumped, formed, formed_event, formed_header, formed_of, parts_in, raised, streams_in, upgraded, upgraded_header, with_stream}
pub use Rattle.gr_text.specs.LineLaws.{IsSaid, IsSiteOf, IsSitedSaid, ReadIsText, SitedReadIsText, SitedTextIsRead, TextIsRead}
unfoldable pub use Rattle.gr_text.specs.LineReading.{atomic_said, barrier_said, cut_at, event_said, flags_said, header_said, kind_said, line_said, name_said, names_said, number_of, order_said, same, scope_said, short_of, sited_said, space_said, unspaced}
pub use Rattle.gr_text.specs.LineReading.{IsFirst, IsWithout, IsWord, at_end, behind_mark, behind_space, checked, end_said, first_of, header_made, version_said}
pub use Rattle.gr_text.specs.LineText.{IsLine, atomic_words, first_word, flags_word, header_words, later_text, later_words, line_text, name_words, names_words, order_word, scope_word, site_text, sited_text, space_word, spaced, version_words}
unfoldable pub use Rattle.gr_text.specs.Lines.{lines_of}
unfoldable pub use Rattle.gr_text.specs.Partial.{lines_before}
pub use Rattle.gr_text.specs.Partial.{IsRefusedAtHeader, IsRefusedBehind, RefusedIsToldUpToItsFault, StandsBefore, WholeStreamsStandWhole, behind_end, front_at, text_before_fault}
unfoldable pub use Rattle.gr_text.specs.Texts.{said_from}
pub use Rattle.gr_text.specs.Texts.{HasRoom, header_line, line_at, line_bytes, lines_bytes, packed, record_at, record_line, said_at, said_in, version_at, version_behind, whole_line}
pub use Rattle.gr_text.specs.Wholes.{DumpedAreStreams, DumpedIsPackedAgain, IsWhole, PackedAreStreams, PackedIsDumpedAgain, UpgradedAreStreams, UpgradedStays, WholeStreamsAreDumped, WholeStreamsArePacked, WholeStreamsAreUpgraded, bytes_of, text_of, upgraded_stream}
pub use Rattle.gr_text.specs.Types.{Acquire, AtEnd, Barrier, Both, Device, End, Event, Fault, Form, Four, Global, Group, HEADER_LENGTH, Header, Inside, Kind, Line, Load, Local, Long, MOST_ITEMS_OF_A_GROUP, MOST_NAMES, MOST_RECORDS, Name, One, Order, Outside, Place, Read, RecordError, Relaxed, Release, Rmw, Scope, SitedLine, Space, Stop, Store, Text, Three, Two, Version, Write}
