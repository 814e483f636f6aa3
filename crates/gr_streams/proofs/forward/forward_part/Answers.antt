use Rattle.gr_streams.proofs.forward.forward_part.Goals as goal

pub returns-in-Event-clause-sent : goal.returns-in-Event-clause-sent
returns-in-Event-clause-sent g c = rw c.in-Event.is c.forward_one.ensures.sent
