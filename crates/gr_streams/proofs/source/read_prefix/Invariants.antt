use Rattle.gr_model.proofs.Common.{◌-◌, length, Consumes}
use Rattle.gr_record.specs.declared.layout.TheConstants.{HEADER_LENGTH}
use Rattle.gr_streams.proofs.source.read_prefix.Given as goal

-- what was read so far is the front of the bytes
abbrev pub invariant-loop-piece : goal.invariant-loop-piece
invariant-loop-piece g l = Consumes (g.T.Read.remaining l.initial.reader) (g.T.Read.remaining l.reader) l.prefix.items

abbrev pub decreases-loop-piece : goal.decreases-loop-piece
decreases-loop-piece g l = HEADER_LENGTH - length l.prefix.items
