use Rattle.gr_barriers.proofs.group.Group.state.Goals as goal

pub returns : goal.returns
returns g c = rw (← c.self.view_is) (c.state.ensures _ _ (rw (← c.self.view_is) at c.summary.ensures))
