use Rattle.gr_model.proofs.Common.{iff_false}
use Rattle.gr_barriers.proofs.SummaryLemmas.{converges, waits}
use Rattle.gr_barriers.proofs.summary.Summary.state.Goals as goal

pub returns-then-is_empty : goal.returns-then-is_empty
returns-then-is_empty c n arrived is = (c.is_empty.ensures n arrived is).0 c.if-is_empty.true

pub returns-then-is_divergent : goal.returns-then-is_divergent
returns-then-is_divergent c n arrived is = (c.is_divergent.ensures n arrived is).0 c.if-is_divergent.true

pub returns-then-self : goal.returns-then-self
returns-then-self c n arrived is =
    let somebody = iff_false (c.is_empty.ensures n arrived is) c.if-is_empty.false in
    waits n arrived c.args.self.now is somebody c.args.ended (iff_false (c.is_divergent.ensures n arrived is) c.if-is_divergent.false) c.if-self.true

pub returns-else-self : goal.returns-else-self
returns-else-self c n arrived is =
    let somebody = iff_false (c.is_empty.ensures n arrived is) c.if-is_empty.false in
    converges n arrived c.args.self.now is somebody c.args.ended (iff_false (c.is_divergent.ensures n arrived is) c.if-is_divergent.false) (λ lacks. cc)
