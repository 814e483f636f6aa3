-- Streams as they lie in memory.
use Rattle.std.specs.Prelude.{List, map}
use Rattle.gr_intake.specs.Joined.{Flat}
use Rattle.gr_replay.specs.declared.joined.Stream.{Stream}

abbrev pub flat : Stream → Flat
flat s = record { header = s.header; events = s.events }

abbrev pub flats : List Stream → List Flat
flats ss = map flat ss
