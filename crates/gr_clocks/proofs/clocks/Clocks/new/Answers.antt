use Rattle.gr_clocks.proofs.ReleaseLemmas.{each_memory}
use Rattle.gr_clocks.proofs.clocks.Clocks.new.Goals as goal

pub returns-clause-zero : goal.returns-clause-zero
returns-clause-zero g c = record {
  shape = c.in_ok-global.ensures.zero.shape;
  clocks = each_memory _ c.in_ok-global.ensures.zero c.in_ok-local.ensures.zero;
}
