use Rattle.gr_model.proofs.Common.{inl, inr, ◌∙◌, arith, sym, true≢false, cases_eq}
use Rattle.gr_races.proofs.parting.has_divergent.Goals as goal

pub loop-number-preserved : goal.loop-number-preserved
loop-number-preserved g c = λ k from below divergent. elim (cases_eq k c.loop-number.number) [
  | inl same ↦ true≢false (sym (c.is_divergent.ensures.1 (rw same at divergent)) ∙ c.if-is_divergent.false)
  | inr other ↦ c.loop-number.invariant k from (omega (arith, below, other)) divergent
]

pub returns : goal.returns
returns g c = (
  λ no. absurd (true≢false (sym no)),
  λ h. absurd (c.loop-number.invariant h.0 h.1 (omega (arith, h.2, c.loop-number-test.false)) h.3),
)
