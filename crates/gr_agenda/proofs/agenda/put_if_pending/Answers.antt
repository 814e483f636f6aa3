use Rattle.gr_model.proofs.Common.{◌≡◌, ap, refl, ⊎_elim}
use Rattle.gr_agenda.specs.Types.{EventId, Name, Item}
use Rattle.gr_agenda.specs.Kept.{IsHeldUp}
use Rattle.gr_agenda.proofs.agenda.put_if_pending.Goals as goal

pub returns-else-not-is_idle-clause-there : goal.returns-else-not-is_idle-clause-there
returns-else-not-is_idle-clause-there g c pending = absurd (⊎_elim
    (λ can. c.if-not-is_idle.ensures.none refl can)
    (λ (held : (d : EventId) × (n : Name) × (d.at ≡ c.args.item) × IsHeldUp c.args.order.now.taken c.args.order.now.handled d n). c.if-not-is_idle.ensures.free refl held.0 held.1 (ap Item held.2) held.3)
    pending)
