use Rattle.gr_model.proofs.Common.{arith}
use Rattle.gr_timeline.proofs.GroupLemmas.{count_small, gathered_next, item_within}
use Rattle.gr_timeline.proofs.accesses.add_group.Goals as goal

pub index-count-requires : goal.index-count-requires
index-count-requires g c =
    omega (arith, item_within c.args.items c.loop-number.number c.args.list.now c.index-list-number.result c.requires.accepted c.loop-number-test.true c.index-list-number.is c.args.word c.args.group c.args.known.now.entries c.loop-number.counts.items c.loop-number.known.entries c.loop-number.invariant, c.loop-number.counts.ok)

pub count_record-requires-clause-item : goal.count_record-requires-clause-item
count_record-requires-clause-item g c =
    item_within c.args.items c.loop-number.number c.args.list.now c.index-list-number.result c.requires.accepted c.loop-number-test.true c.index-list-number.is c.args.word c.args.group c.args.known.now.entries c.loop-number.counts.items c.loop-number.known.entries c.loop-number.invariant

pub count_record-requires-clause-small : goal.count_record-requires-clause-small
count_record-requires-clause-small g c =
    count_small c.args.items c.loop-number.number c.args.list.now c.index-list-number.result c.requires.accepted c.loop-number-test.true c.index-list-number.is c.args.word c.args.group c.args.known.now.entries c.loop-number.counts.items c.loop-number.known.entries c.loop-number.invariant

pub loop-number-preserved : goal.loop-number-preserved
loop-number-preserved g c =
    gathered_next c.args.items c.loop-number.number c.args.list.now c.index-list-number.result c.requires.accepted c.loop-number-test.true c.index-list-number.is c.args.word c.args.group c.args.known.now.entries c.loop-number.counts.items c.loop-number.known.entries c.loop-number.invariant c.index-count.result.now c.count_record.new.counts.items c.keep.new.known.entries c.index-count.ensures c.count_record.ensures.length c.count_record.ensures.each c.in_ok-keep.ensures
