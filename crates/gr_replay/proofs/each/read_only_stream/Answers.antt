use Rattle.gr_replay.specs.InMemory.{flat, flats}
use Rattle.gr_intake.proofs.Accepted.{stream_is_one}
use Rattle.gr_replay.proofs.each.read_only_stream.Goals as goal

pub returns-then-is_empty-clause-good : goal.returns-then-is_empty-clause-good
returns-then-is_empty-clause-good g c = λ are.
    stream_is_one (flats c.args.streams.now) c.args.bytes.now are (flat c.in_ok-stream.stream) c.in_ok-stream.rest.now c.in_ok-stream.ensures.exact
