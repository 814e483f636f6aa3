-- What the items of a group bring to the first divergent barrier of a launch.
-- Source: docs/OUTPUT.md, "races".
use Rattle.std.specs.Prelude.{ℕ, List, [], Option, map, option_map, slice_get}
use Rattle.std.specs.List.{range_with_len}
use Rattle.std.specs.Option.{option_map_or}
use Rattle.gr_races.specs.Types.{Crossing, Divergence}
use Rattle.gr_model.specs.Prelude.{Streams, arrivals, size_of}
use Rattle.gr_races.specs.Between.{crossing}

-- an item's barrier of an instance, if it came
abbrev pub came : Streams → ℕ → ℕ → ℕ → Option Crossing
came s g k i = option_map (crossing k) (arrivals s g k i)

-- those of all items of a group
abbrev pub came_to : Streams → ℕ → ℕ → List (Option Crossing)
came_to s g k = map (came s g k) (range_with_len 0 (size_of s g))

-- of the first of these divergent instances, if there is one
abbrev pub came_to_first : Streams → List Divergence → List (Option Crossing)
came_to_first s divergences = option_map_or (λ d. came_to s d.group d.instance) (slice_get divergences 0) []
