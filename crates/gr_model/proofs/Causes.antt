-- The cause of a divergent instance: there is one at most, and what has one diverges.
use Rattle.gr_model.proofs.Common.{◌≡◌, ℕ, Bool, arith}
use Rattle.gr_model.specs.declared.report.DivergenceCause.{DivergenceCause}
use Rattle.gr_model.specs.Prelude.{Arrivals, HasDivergenceCause, IsDivergentOf}

pub one_cause : (complete : Bool) (size : ℕ) (arrived : Arrivals) (c d : DivergenceCause) → HasDivergenceCause complete size arrived c → HasDivergenceCause complete size arrived d → c ≡ d
one_cause complete size arrived c d p q = grind arith

pub cause_diverges : (complete : Bool) (size : ℕ) (arrived : Arrivals) (c : DivergenceCause) → HasDivergenceCause complete size arrived c → IsDivergentOf complete size arrived
cause_diverges complete size arrived c p = grind arith
