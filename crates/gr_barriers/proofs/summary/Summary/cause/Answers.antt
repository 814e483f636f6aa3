use Rattle.gr_model.proofs.Common.{iff_false}
use Rattle.gr_barriers.proofs.SummaryLemmas.{mixed, nobody_diverges, none_missing, not_divergent, one_site, partial}
use Rattle.gr_barriers.proofs.summary.Summary.cause.Goals as goal
use Rattle.gr_barriers.proofs.summary.Summary.cause.Goals.{else-ended-via-then-ended+else-self, else-ended-via-else-ended}

pub returns-then-is_empty : goal.returns-then-is_empty
returns-then-is_empty c n arrived is = nobody_diverges c.args.ended n arrived ((c.is_empty.ensures n arrived is).0 c.if-is_empty.true)

pub returns-then-self : goal.returns-then-self
returns-then-self c n arrived is =
    (c.if-ended.true, partial n arrived c.args.self.now is (iff_false (c.is_empty.ensures n arrived is) c.if-is_empty.false) c.if-self.true)

pub returns-then-self-3 : goal.returns-then-self-3
returns-then-self-3 c n arrived is =
    let somebody = iff_false (c.is_empty.ensures n arrived is) c.if-is_empty.false in
    let s = c.args.self.now in (
      none_missing n arrived s is somebody c.args.ended (elim c.else-ended.branch [
        | else-ended-via-then-ended+else-self w ↦ λ whole lacks. cc
        | else-ended-via-else-ended w ↦ λ whole lacks. cc
      ]),
      one_site n arrived s is somebody (λ other. cc),
      mixed n arrived s is somebody c.if-self-3.true,
    )

pub returns-else-self-3 : goal.returns-else-self-3
returns-else-self-3 c n arrived is =
    let somebody = iff_false (c.is_empty.ensures n arrived is) c.if-is_empty.false in
    not_divergent n arrived c.args.self.now is somebody c.args.ended (elim c.else-ended.branch [
      | else-ended-via-then-ended+else-self w ↦ λ whole lacks. cc
      | else-ended-via-else-ended w ↦ λ whole lacks. cc
    ]) (λ other. cc)
