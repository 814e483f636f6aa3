use Rattle.gr_model.proofs.Common.{◌++◌, List, ℕ, Consumes}
use Rattle.gr_streams.specs.Sending.{IsFed, IsSameSender}
use Rattle.gr_streams.proofs.reading.read_rest.Given as goal

-- what was read so far was decoded, and its events sent
abbrev pub invariant-loop : goal.invariant-loop
invariant-loop g l = record {
  same : IsSameSender l.fn.forward.sender l.forward.sender;
  read : List ℕ;
  consumed : Consumes (g.T.Read.remaining l.initial.reader) (g.T.Read.remaining l.reader) read;
  fed : (fed : List ℕ) → IsFed fed l.fn.forward.decoder l.fn.forward.sender l.fn.forward.refused → IsFed (fed ++ read) l.forward.decoder l.forward.sender l.forward.refused;
}
