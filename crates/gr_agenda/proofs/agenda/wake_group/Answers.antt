use Rattle.gr_agenda.proofs.agenda.wake_group.Goals as goal

pub returns-clause-items : goal.returns-clause-items
returns-clause-items g c k lt pending =
    let size = rw (c.shape.ensures.sizes, c.lanes.ensures.taken) at c.items.ensures.size in
    c.put.ensures.keeps _ (c.put_pending.ensures.there k (rw size lt) pending)

pub returns-clause-keeps : goal.returns-clause-keeps
returns-clause-keeps g c r has = c.put.ensures.keeps r (c.put_pending.ensures.keeps r has)
