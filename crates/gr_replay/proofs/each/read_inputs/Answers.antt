use Rattle.gr_replay.proofs.Apart.{one_more_reader}
use Rattle.gr_replay.proofs.each.read_inputs.Goals as goal

pub loop-reader-preserved : goal.loop-reader-preserved
loop-reader-preserved g c =
    one_more_reader g.T.Read.remaining c.loop-reader.yielded c.loop-reader.inputs.items _ c.in-Some.reader c.in_ok-input.input c.loop-reader.invariant c.in_ok-input.ensures.bytes c.in_ok-keep_input.ensures
