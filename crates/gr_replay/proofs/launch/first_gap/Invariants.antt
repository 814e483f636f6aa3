use Rattle.gr_replay.specs.InMemory.{flats}
use Rattle.gr_replay.proofs.Launching.{PlacedBelow}
use Rattle.gr_replay.proofs.launch.first_gap.Given as goal

abbrev pub invariant-loop-place : goal.invariant-loop-place
invariant-loop-place l = PlacedBelow (flats l.streams) l.place
