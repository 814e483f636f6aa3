-- What is seen by handled events, and known, was handled; and each item knows of its own handled events.
use Rattle.gr_model.proofs.Common.{◌≡◌, List, refl, inl, inr}
use Rattle.gr_closure.specs.Types.{EventId, ItemId, Space}
use Rattle.gr_model.specs.Prelude.{Sees, IsAt, IsIn, IsLawful, Streams}
use Rattle.gr_model.proofs.Descent.{below_before, lawful_descends, together-swap}
use Rattle.gr_steps.proofs.Orders.{met_handled}
use Rattle.gr_closure.specs.Knowledge.{Knows, by_event, by_instance}

module _ (s : Streams) (m : Space) (order : List EventId) where
  pub seen_handled : IsLawful s order → (e d : EventId) → IsIn order e → Sees s m e d → IsIn order d
  seen_handled lawful e d h (inl same) = rw same h
  seen_handled lawful e d h (inr before) =
      let there = below_before s (IsAt order) (lawful_descends s order lawful) m d e before h.0 h.1 in (there.0, there.2)

  pub known_handled : IsLawful s order → (i : ItemId) (d : EventId) → Knows s m order i d → IsIn order d
  known_handled lawful i d (by_event e h item seen) = seen_handled lawful e d h seen
  known_handled lawful i d (by_instance a c b h item flagged met seen) = seen_handled lawful c d (met_handled s order lawful a b c h (together-swap met)) seen

  pub own_known : (i : ItemId) (d : EventId) → d.at ≡ i → IsIn order d → Knows s m order i d
  own_known i d item h = by_event d h item (inl refl)
