use Rattle.gr_model.proofs.Common.{arith}
use Rattle.gr_order.proofs.PassLemmas.{item_waits, one_tick_more}
use Rattle.gr_order.proofs.meeting.count_next_events.Goals as goal

pub raise-requires-clause-room : goal.raise-requires-clause-room
raise-requires-clause-room g c full =
    omega (arith, item_waits c.args.frontier.now c.loop-item.frontier c.args.group c.loop-item.item c.loop-item.invariant, c.requires.room c.loop-item.item c.loop-item-test.true, full)

pub loop-item-preserved : goal.loop-item-preserved
loop-item-preserved g c = one_tick_more c.args.frontier.now c.loop-item.frontier c.args.group c.loop-item.item c.loop-item.invariant c.raise.new.self c.raise.ensures
