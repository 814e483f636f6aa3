use Rattle.gr_explain.specs.Records.{AreFirstIndicesOf}
use Rattle.gr_explain.proofs.records.Records.of.Given as goal

abbrev pub invariant-loop-group : goal.invariant-loop-group
invariant-loop-group g l = AreFirstIndicesOf l.group l.traces l.indices.items
