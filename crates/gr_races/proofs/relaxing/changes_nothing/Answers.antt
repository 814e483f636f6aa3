use Rattle.gr_model.proofs.Common.{◌∙◌, ap, arith, inl, inr, length, sym, cases_eq}
use Rattle.gr_races.proofs.RelaxingLemmas.{same_launch, same_list}
use Rattle.gr_races.proofs.relaxing.changes_nothing.Goals as goal

pub loop-group-preserved : goal.loop-group-preserved
loop-group-preserved g c = λ k lt. elim (cases_eq k c.loop-group.group) [
  | inl here ↦ rw here (rw (← c.list.ensures.list) (same_list c.args.relaxation c.list.result.now (sym c.are_relaxed.ensures ∙ cc)))
  | inr other ↦ c.loop-group.invariant k (omega (arith, lt, other))
]

pub returns : goal.returns
returns g c = λ _. same_launch c.args.relaxation c.args.traces.now (λ k lt. c.loop-group.invariant k (omega (arith, lt, c.groups-group-end.ensures.count, ap length c.shape.ensures.sizes, c.shape.ensures.accepted.count)))
