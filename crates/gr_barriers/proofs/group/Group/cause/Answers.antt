use Rattle.gr_barriers.proofs.group.Group.cause.Goals as goal

pub returns : goal.returns
returns g c = rw (← c.self.view_is) (c.cause.ensures _ _ (rw (← c.self.view_is) at c.summary.ensures))
