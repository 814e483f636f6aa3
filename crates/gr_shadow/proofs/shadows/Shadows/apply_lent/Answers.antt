use Rattle.gr_model.proofs.Common.{arith}
use Rattle.gr_shadow.specs.Lent.{lent_clocked}
use Rattle.gr_shadow.proofs.ShadowLemmas.{answer_told, stands_after}
use Rattle.gr_shadow.proofs.shadows.Shadows.apply_lent.Goals as goal

pub returns-clause-stands : goal.returns-clause-stands
returns-clause-stands g c accesses stands = stands_after accesses _ _ _ stands c.in_ok-hit.ensures.kept

pub returns-clause-word : goal.returns-clause-word
returns-clause-word g c accesses stands w =
    grind (arith, answer_told accesses c.args.self.now (lent_clocked c.args.access.now) stands w, c.then_some.ensures, c.in_ok-hit.ensures.hit)
