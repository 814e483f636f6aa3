use Rattle.gr_clocks.proofs.ReleaseLemmas.{each_memory, learns, next_of_join}
use Rattle.gr_clocks.proofs.clocks.Clocks.learn_and_tick.Goals as goal

pub put_clock-requires-clause-next : goal.put_clock-requires-clause-next
put_clock-requires-clause-next g c = next_of_join c.are_in.ensures.none (rw (← c.self.view_is) at c.in_ok-global.ensures.counts)

pub put_clock-requires-2-clause-next : goal.put_clock-requires-2-clause-next
put_clock-requires-2-clause-next g c = next_of_join c.are_in-2.ensures.none (rw (← c.self.view_is) at c.in_ok-local.ensures.counts)

pub returns-clause-ok : goal.returns-clause-ok
returns-clause-ok g c =
    let global = rw (← c.self.view_is) at c.in_ok-global.ensures.counts in
    let local = rw (← c.self.view_is) at c.in_ok-local.ensures.counts in
    rw (← c.self.view_is) (record {
      shape = c.put_clock.ensures.shape;
      learns = each_memory _ (learns c.put_clock.ensures global) (learns c.put_clock-2.ensures local);
    })
