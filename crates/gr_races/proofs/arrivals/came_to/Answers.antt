use Rattle.gr_model.proofs.Common.{arith, sym, map-range_with_len_more}
use Rattle.gr_races.proofs.arrivals.came_to.Goals as goal

pub came-requires : goal.came-requires
came-requires g c p at = omega (arith, c.requires.forgotten c.args.group)

pub loop-item-preserved : goal.loop-item-preserved
loop-item-preserved g c = rw (c.in_ok-push.ensures.items, c.came.ensures, c.loop-item.invariant) (sym (map-range_with_len_more _ 0 c.loop-item.item c.loop-item.item (omega arith)))
