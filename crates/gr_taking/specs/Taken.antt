-- What a sequencer has taken of a launch.
use Rattle.std.specs.Prelude.{ℕ, List, map, slice_set}
use Rattle.gr_model.specs.declared.event.Event.{Event}
use Rattle.gr_model.specs.Prelude.{Streams}

-- streams with this list of a group
abbrev pub with_list : Streams → ℕ → List Event → Streams
with_list s g list = record { sizes = s.sizes; lists = slice_set s.lists g list }

-- streams whose records are read so
abbrev pub read_by : (Event → Event) → Streams → Streams
read_by read s = record { sizes = s.sizes; lists = map (map read) s.lists }
