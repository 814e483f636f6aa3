use Rattle.gr_model.proofs.Common.{rules}
use Rattle.gr_world.proofs.TakeLemmas.{event_good, may_take, room_there, take_allowed, taken_is_step, taken_is_world}
use Rattle.gr_world.proofs.world.World.take.Goals as goal

pub take-requires-clause-good : goal.take-requires-clause-good
take-requires-clause-good g c = let good = event_good _ c.self.invariant _ _ _ _ c.in-Some.ensures.value (search rules) c.in-Some-front.ensures.1 in (good.1, good.2)

pub take-requires-clause-room : goal.take-requires-clause-room
take-requires-clause-room g c = room_there _ c.self.invariant _ _ _ _ c.in-Some.ensures.value (search rules) c.in-Some-front.ensures.1

pub unreachable-requires : goal.unreachable-requires
unreachable-requires g c =
    let can = may_take _ c.self.invariant _ _ _ _ c.in-Some.ensures.value (search rules) c.in-Some-front.ensures.1 in
    search (rules, can.group, can.before_end, can.item)

pub invariant_of-self-2 : goal.invariant_of-self-2
invariant_of-self-2 g c =
    taken_is_world _ c.self.invariant _ _ _ _ c.in-Some.ensures.value (search rules) c.in-Some-front.ensures.1 _ _ c.in-Ok.ensures.ok.1 c.pop-taken.result c.pop-taken.ensures c.take.ensures.sequence

pub returns-clause-step : goal.returns-clause-step
returns-clause-step g c =
    rw (← c.self.view_is, ← c.from.ensures)
    (taken_is_step _ c.self.invariant _ _ _ _ c.in-Some.ensures.value (search rules) c.in-Some-front.ensures.1 _ _ c.in-Ok.ensures.ok.1 c.pop-taken.result c.pop-taken.ensures)

pub returns-in-Err-Memory-clause-err : goal.returns-in-Err-Memory-clause-err
returns-in-Err-Memory-clause-err g c = rw (← c.self.view_is, ← c.from.ensures) (take_allowed _ c.self.invariant _ _ _ _ c.in-Some.ensures.value (search rules) c.in-Some-front.ensures.1)
