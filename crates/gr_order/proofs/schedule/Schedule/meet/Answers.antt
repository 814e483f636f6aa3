use Rattle.gr_order.proofs.schedule.Schedule.meet.Goals as goal

pub returns-clause-step : goal.returns-clause-step
returns-clause-step g c = c.meet_instance.ensures.step c.in-Some.instance c.in-Some.ensures.meeting.0 c.in-Some.ensures.meeting.1
