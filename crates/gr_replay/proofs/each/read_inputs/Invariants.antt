use Rattle.gr_model.proofs.Common.{map}
use Rattle.gr_replay.specs.Each.{AreRead, inputs_of}
use Rattle.gr_replay.proofs.each.read_inputs.Given as goal

abbrev pub invariant-loop-reader : goal.invariant-loop-reader
invariant-loop-reader g l = AreRead (map g.T.Read.remaining l.yielded) (inputs_of l.inputs.items)
