use Rattle.gr_closure.proofs.ClockCounts.{clocks_count}
use Rattle.gr_closure.proofs.knowledge_laws.clocks_count.Goals as goal

pub returns : goal.returns
returns c = clocks_count
