use Rattle.gr_model.proofs.Common.{arith}
use Rattle.gr_shadow.specs.Lent.{lent_clocked}
use Rattle.gr_shadow.proofs.KeepsLemmas.{class_told}
use Rattle.gr_shadow.proofs.touches.Touches.clash.Goals as goal

pub returns-then-not-exempt : goal.returns-then-not-exempt
returns-then-not-exempt g c =
    let told = class_told (lent_clocked c.args.access.now) c.self.inside.class c.self.inside.group c.self.inside.touches.items c.self.invariant in
    rw (← c.self.view_is) (grind (arith, told, c.exempt.ensures, c.if-not-exempt.true, c.has_unseen.ensures, c.deref.ensures.value))

pub returns-else-not-exempt : goal.returns-else-not-exempt
returns-else-not-exempt g c =
    let told = class_told (lent_clocked c.args.access.now) c.self.inside.class c.self.inside.group c.self.inside.touches.items c.self.invariant in
    rw (← c.self.view_is) (grind (arith, told, c.exempt.ensures, c.if-not-exempt.false))
