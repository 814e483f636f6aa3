use Rattle.gr_model.proofs.Common.{take}
use Rattle.gr_explain.specs.Records.{IsIndexOf}
use Rattle.gr_explain.proofs.records.Index.of.Given as goal

abbrev pub invariant-loop-place : goal.invariant-loop-place
invariant-loop-place g l = IsIndexOf l.items (take l.place l.list) l.index
