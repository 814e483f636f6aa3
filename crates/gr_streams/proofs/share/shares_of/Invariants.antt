use Rattle.gr_model.proofs.Common.{◌≡◌, ◌++◌, into_iter_items}
use Rattle.gr_route.specs.Batches.{all_of}
use Rattle.gr_streams.proofs.share.shares_of.Given as goal

-- the shares, and the streams of the next one
abbrev pub invariant-loop-source : goal.invariant-loop-source
invariant-loop-source g l = (all_of l.shares.items ++ l.next.items) ++ into_iter_items l.source-iterator ≡ l.fn.sources.items
