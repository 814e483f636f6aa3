use Rattle.gr_barriers.proofs.SummaryLemmas.{caused}
use Rattle.gr_barriers.proofs.summary.Summary.is_divergent.Goals as goal

pub returns : goal.returns
returns c n arrived is = rw c.is_some.ensures (caused c.args.ended n arrived c.cause.result (c.cause.ensures n arrived is))
