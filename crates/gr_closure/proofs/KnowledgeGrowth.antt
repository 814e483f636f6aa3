-- What handled events see, and what is known along their order, stays where lists that are not complete grow.
use Rattle.gr_model.proofs.Common.{◌↔◌, List, arith}
use Rattle.gr_closure.specs.Types.{EventId, ItemId, Space}
use Rattle.gr_model.specs.Prelude.{Together, Sees, IsIn, IsLawful, Grows, Streams}
use Rattle.gr_model.proofs.Descent.{lawful_is_grounded, together-swap}
use Rattle.gr_model.proofs.GrowthLaws.{before_grows, before_shrinks, together_shrinks, together_grows}
use Rattle.gr_steps.proofs.Orders.{met_handled}
use Rattle.gr_closure.specs.Knowledge.{Knows, by_event, by_instance}

module _ (s t : Streams) (m : Space) (order : List EventId) (grows : Grows s t) (lawful : IsLawful s order) where
  pub seen_stays : (e d : EventId) → IsIn order e → Sees s m e d ↔ Sees t m e d
  seen_stays e d h = grind (arith, lawful_is_grounded s order e lawful h, before_grows s t grows m d e, before_shrinks s t grows m d e)

  known_grows : (i : ItemId) (d : EventId) → Knows s m order i d → Knows t m order i d
  known_grows i d (by_event e h item seen) = by_event e h item ((seen_stays e d h).0 seen)
  known_grows i d (by_instance a c b h item flagged met seen) = by_instance a c b h item flagged (together_grows s t grows a c b met) ((seen_stays c d (met_handled s order lawful a b c h (together-swap met))).0 seen)

  known_shrinks : (i : ItemId) (d : EventId) → Knows t m order i d → Knows s m order i d
  known_shrinks i d (by_event e h item seen) = by_event e h item ((seen_stays e d h).1 seen)
  known_shrinks i d (by_instance a c b h item flagged met seen) =
      let was : Together s a c b = grind (arith, met, h, together-swap, together_shrinks) in
      by_instance a c b h item flagged was ((seen_stays c d (met_handled s order lawful a b c h (together-swap was))).1 seen)

  pub knowledge_stays : (i : ItemId) (d : EventId) → Knows s m order i d ↔ Knows t m order i d
  knowledge_stays i d = (known_grows i d, known_shrinks i d)
