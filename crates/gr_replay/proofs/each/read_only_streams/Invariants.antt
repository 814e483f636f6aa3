use Rattle.gr_model.proofs.Common.{◌≡◌, drop}
use Rattle.gr_replay.specs.Each.{each_at, each_of, inputs_of}
use Rattle.gr_replay.specs.InMemory.{flats}
use Rattle.gr_intake.specs.Intakes.{AreSeen}
use Rattle.gr_intake.specs.Joined.{headers_in}
use Rattle.gr_intake.specs.Laws.{AreStreams}
use Rattle.gr_replay.proofs.each.read_only_streams.Given as goal

abbrev pub invariant-loop-input : goal.invariant-loop-input
invariant-loop-input g l = record { so_far : each_at (flats l.streams.items) (drop l.input-index (inputs_of l.inputs)) ≡ each_of (inputs_of l.inputs); good : AreStreams (flats l.streams.items); seen : AreSeen l.groups (headers_in (flats l.streams.items)) }
