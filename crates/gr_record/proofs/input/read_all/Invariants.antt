use Rattle.gr_model.proofs.Common.{Consumes}
use Rattle.gr_record.proofs.input.read_all.Given as goal

-- what was read so far was at the front
abbrev pub invariant-loop : goal.invariant-loop
invariant-loop g l = Consumes (g.T.Read.remaining l.initial.reader) (g.T.Read.remaining l.reader) l.bytes.items
