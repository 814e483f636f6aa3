-- The race test of two accesses says whether their events clash.
use Rattle.gr_model.proofs.Common.{◌↔◌, ◌≡◌, ◌<◌, ◌&&◌, ◌||◌, arith, not, and_parts, and_from, not-true, not_from_false, false_from_ne_true, ltb-true, lt-ltb, true≢false}
use Rattle.gr_closure.specs.Types.{EventId, Word}
use Rattle.gr_model.specs.Prelude.{modifies, inclusive, memory_of, Sees, ClashesAt, RacesInOrder, Streams, exempt}
use Rattle.gr_clocks.specs.Counts.{count_of}
use Rattle.gr_clocks.proofs.RowLemmas.{same_items, same_item_self}
use Rattle.gr_model.proofs.ClassLemmas.{exemption_told}
use Rattle.gr_clocks.specs.ClockedAccess.{ClockedAccess, bare}
use Rattle.gr_shadow.specs.Clashes.{clashes}
use Rattle.gr_closure.specs.Accesses.{IsAccess}

module _ (s : Streams) (w : Word) (e f : EventId) (x y : ClockedAccess) (of_e : IsAccess s e (bare x)) (of_f : IsAccess s f (bare y)) where
  exemption : exempt x.class x.item.group y.class y.item.group ≡ not ((modifies of_e.event.kind || modifies of_f.event.kind) && not (inclusive of_e.event.kind x.item.group of_f.event.kind y.item.group))
  exemption = exemption_told of_e.event.kind of_f.event.kind x.class y.class x.item.group y.item.group of_e.class of_f.class

  -- y's clock counts x's event where this happens before y's
  seen : (x.index < count_of y.clock x.item) ↔ Sees s (memory_of y.word) f e
  seen = grind arith

  pub clash_is_hit : RacesInOrder s w e f → ClashesAt (λ z. z.word) clashes w x y
  clash_is_hit c = grind (arith, and_from, not_from_false, false_from_ne_true, same_items, exemption, seen, ltb-true)

  pub hit_is_clash : ClashesAt (λ z. z.word) clashes w x y → RacesInOrder s w e f
  hit_is_clash h = grind (arith, true≢false, same_item_self, not-true, lt-ltb, seen, and_parts, exemption)
