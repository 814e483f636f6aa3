use Rattle.gr_order.proofs.MeetLemmas.{meeting_of}
use Rattle.gr_order.proofs.schedule.Schedule.meeting.Goals as goal

pub returns-clause-meeting : goal.returns-clause-meeting
returns-clause-meeting g c =
    rw (← c.self.view_is) (meeting_of c.self.inside.lanes.streams c.self.inside.handled c.self.inside.frontier c.self.invariant.kept.state.first c.args.group c.next_instance.result c.next_instance.ensures)
