use Rattle.gr_model.proofs.Common.{ap, arith, slice_get-get_or}
use Rattle.gr_model.specs.declared.event.Event.{Event}
use Rattle.gr_explain.proofs.RecordLemmas.{index_more}
use Rattle.gr_explain.proofs.records.Index.of.Goals as goal

pub add-requires-clause-there : goal.add-requires-clause-there
add-requires-clause-there g c = omega (arith, (c.requires.good c.loop-place.place _ (slice_get-get_or c.args.list.now c.loop-place.place c.index-list-place.result c.loop-place-test.true)).0.0, ap (λ (y : Event). y.item) c.index-list-place.is, c.loop-place.invariant.count)

pub loop-place-preserved : goal.loop-place-preserved
loop-place-preserved g c = index_more c.args.items c.loop-place.place c.args.list.now c.index-list-place.result c.loop-place.index c.add.new.self c.loop-place-test.true c.index-list-place.is c.loop-place.invariant c.in_ok-add.ensures.length c.in_ok-add.ensures.each
