use Rattle.gr_model.proofs.Common.{All-push}
use Rattle.gr_shadow.specs.Keeps.{IsOfClass}
use Rattle.gr_shadow.proofs.KeepsLemmas.{All-kept}
use Rattle.gr_shadow.proofs.touches.Touches.add.Goals as goal

pub invariant_of-self-then-len-self : goal.invariant_of-self-then-len-self
invariant_of-self-then-len-self g c =
    let P = IsOfClass c.self.inside.class c.self.inside.group in
    All-kept P _ c.push.new.self.items c.compact.ensures (rw c.in_ok-push.ensures.items (All-push P _ _ c.self.invariant (rw (← c.self.view_is) at c.requires)))

pub returns-then-len-self-clause-kept : goal.returns-then-len-self-clause-kept
returns-then-len-self-clause-kept g c = rw (← c.self.view_is, ← c.in_ok-push.ensures.items) c.compact.ensures

pub invariant_of-self : goal.invariant_of-self
invariant_of-self g c = rw c.in_err-push.ensures.items c.self.invariant
