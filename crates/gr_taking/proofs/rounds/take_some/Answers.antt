use Rattle.gr_model.proofs.Common.{arith}
use Rattle.gr_taking.proofs.Turns.{fewer_come, next_can, next_good, next_taken, room_for_next}
use Rattle.gr_taking.proofs.rounds.take_some.Goals as goal

pub take_record-requires-clause-can : goal.take_record-requires-clause-can
take_record-requires-clause-can g c = next_can _ _ _ _ _ _ _ _ c.group-group.ensures c.requires.may c.loop.invariant.from c.in-Some.ensures.next

pub take_record-requires-clause-good : goal.take_record-requires-clause-good
take_record-requires-clause-good g c = next_good _ _ _ _ _ _ _ _ c.group-group.ensures c.requires.may c.loop.invariant.from c.in-Some.ensures.next

pub take_record-requires-clause-room : goal.take_record-requires-clause-room
take_record-requires-clause-room g c = room_for_next _ _ _ _ _ _ _ _ c.group-group.ensures c.requires.may c.loop.invariant.from c.in-Some.ensures.next

pub loop-preserved : goal.loop-preserved
loop-preserved g c = grind (arith, next_taken _ _ _ _ _ _ _ _ c.group-group.ensures c.requires.may c.loop.invariant.from c.in-Some.ensures.next, fewer_come _ _ _ _ _ _ _ _ c.group-group.ensures c.requires.may c.loop.invariant.from c.in-Some.ensures.next)

pub returns-then-is_over-clause-turn : goal.returns-then-is_over-clause-turn
returns-then-is_over-clause-turn g c = grind (arith, next_taken _ _ _ _ _ _ _ _ c.group-group.ensures c.requires.may c.loop.invariant.from c.in-Some.ensures.next, fewer_come _ _ _ _ _ _ _ _ c.group-group.ensures c.requires.may c.loop.invariant.from c.in-Some.ensures.next)
