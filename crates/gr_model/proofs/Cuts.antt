-- Events are equal where their items and indices are.
use Rattle.gr_model.proofs.Common.{◌≡◌}
use Rattle.gr_model.specs.declared.event.EventId.{EventId}

pub same_event : (d e : EventId) → d.at ≡ e.at → d.index ≡ e.index → d ≡ e
same_event d e item index = λ i. record { at = item i; index = index i }
