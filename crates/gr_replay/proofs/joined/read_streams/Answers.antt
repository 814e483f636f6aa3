use Rattle.gr_model.proofs.Common.{arith, [], length, sym, ◌∙◌, map_push, err_from_is_err_and}
use Rattle.gr_replay.specs.InMemory.{flats}
use Rattle.gr_intake.proofs.Accepted.{joined_are, none_are}
use Rattle.gr_replay.proofs.Joining.{ends, is_full, stream_fails, goes_on}
use Rattle.gr_replay.proofs.joined.read_streams.Goals as goal

pub returns-then-is_empty-clause-exact : goal.returns-then-is_empty-clause-exact
returns-then-is_empty-clause-exact g c =
    ends (flats c.loop.streams.items) (length c.args.bytes.now) c.loop.counter c.loop.rest.now _ c.loop.invariant.so_far (sym c.is_empty.ensures ∙ c.if-is_empty.true)

pub returns-in_err-stream : goal.returns-in_err-stream
returns-in_err-stream g c = grind (arith, err_from_is_err_and, stream_fails, c.deref.ensures.value, c.in_err-stream.ensures.exact)

pub loop-preserved : goal.loop-preserved
loop-preserved g c = record {
  so_far = grind (arith, map_push, goes_on, c.deref.ensures.value, c.in_ok-stream.ensures.exact, c.in_ok-groups.ensures.kept);
  seen = c.in_ok-groups.ensures.seen;
}

pub returns-clause-exact : goal.returns-clause-exact
returns-clause-exact g c = is_full (flats c.loop.streams.items) (length c.args.bytes.now) c.loop.counter c.loop.rest.now _ c.loop.invariant.so_far c.loop-test.false

pub returns-then-is_empty-clause-good : goal.returns-then-is_empty-clause-good
returns-then-is_empty-clause-good g c =
    joined_are (length c.args.bytes.now) [] c.args.bytes.now none_are (flats c.loop.streams.items) (ends (flats c.loop.streams.items) (length c.args.bytes.now) c.loop.counter c.loop.rest.now _ c.loop.invariant.so_far (sym c.is_empty.ensures ∙ c.if-is_empty.true))

pub returns-clause-good : goal.returns-clause-good
returns-clause-good g c =
    joined_are (length c.args.bytes.now) [] c.args.bytes.now none_are (flats c.loop.streams.items) (is_full (flats c.loop.streams.items) (length c.args.bytes.now) c.loop.counter c.loop.rest.now _ c.loop.invariant.so_far c.loop-test.false)
