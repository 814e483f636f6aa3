use Rattle.gr_clocks.proofs.ReleaseLemmas.{each_memory}
use Rattle.gr_clocks.proofs.clocks.Clocks.with_group.Goals as goal

pub returns-clause-adds : goal.returns-clause-adds
returns-clause-adds g c =
    rw (← c.self.view_is) (record {
      shape = c.in_ok-global.ensures.adds.shape;
      tables = each_memory _ c.in_ok-global.ensures.adds c.in_ok-local.ensures.adds;
    })
