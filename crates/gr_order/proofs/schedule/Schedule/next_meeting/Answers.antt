use Rattle.gr_order.proofs.ForgetLemmas.{next_remembered}
use Rattle.gr_model.proofs.Common.{arith}
use Rattle.gr_order.proofs.MeetLemmas.{is_numbered, numbered_meets}
use Rattle.gr_order.proofs.schedule.Schedule.next_meeting.Goals as goal

pub barrier_number-requires : goal.barrier_number-requires
barrier_number-requires g c =
    next_remembered c.self.inside.lanes c.self.inside.frontier c.self.invariant.forgets (record { at = record { group = c.args.group; item = 0 }; index = c.get-index.result }) (omega (arith, c.get-index.ensures.count))

pub unwrap-requires : goal.unwrap-requires
unwrap-requires g c =
    is_numbered c.self.inside.lanes.streams c.self.inside.handled c.self.inside.frontier c.self.invariant.kept.state.first c.args.group (rw (← c.self.view_is) at c.requires) c.get-index.result c.get-index.ensures.count c.barrier_number.result c.barrier_number.ensures

pub returns-clause-meeting : goal.returns-clause-meeting
returns-clause-meeting g c =
    rw (← c.self.view_is) (numbered_meets c.self.inside.lanes.streams c.self.inside.handled c.self.inside.frontier c.self.invariant.kept.state.first c.args.group (rw (← c.self.view_is) at c.requires) c.get-index.result c.get-index.ensures.count c.unwrap.result (rw c.unwrap.ensures at c.barrier_number.ensures))
