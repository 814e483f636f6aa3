use Rattle.gr_model.proofs.Common.{◌≡◌, ◌-◌, length}
use Rattle.gr_intake.specs.Intakes.{AreSeen}
use Rattle.gr_intake.specs.Joined.{headers_in, joined_at, joined_of}
use Rattle.gr_replay.specs.InMemory.{flats}
use Rattle.gr_replay.proofs.joined.read_streams.Given as goal

abbrev pub invariant-loop : goal.invariant-loop
invariant-loop g l = record { so_far : joined_at (length l.bytes - l.counter) (flats l.streams.items) l.rest ≡ joined_of l.bytes; seen : AreSeen l.groups (headers_in (flats l.streams.items)) }
