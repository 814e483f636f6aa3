use Rattle.gr_lanes.proofs.group.Group.decide.Goals as goal

pub forget-requires-clause-came : goal.forget-requires-clause-came
forget-requires-clause-came g c = rw (← c.self.view_is) at c.requires.came
