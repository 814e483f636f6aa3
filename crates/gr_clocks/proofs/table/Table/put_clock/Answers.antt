use Rattle.gr_clocks.proofs.TableLemmas.{item_group, item_groups, puts_clock}
use Rattle.gr_clocks.proofs.table.Table.put_clock.Goals as goal

pub put-requires-clause-next : goal.put-requires-clause-next
put-requires-clause-next g c =
    rw (item_group c.self.inside.groups.items c.self.invariant c.self.view_is c.args.item c.requires.item c.index_mut.ensures.value) c.requires.next

pub invariant_of-self : goal.invariant_of-self
invariant_of-self g c =
    item_groups c.self.inside.groups.items c.self.invariant c.self.view_is c.args.item c.args.clock c.requires.item c.index_mut.ensures.value c.put.ensures

pub returns : goal.returns
returns g c =
    puts_clock c.self.inside.groups.items c.self.invariant c.self.view_is c.args.item c.args.clock c.requires.item c.index_mut.ensures.value c.put.ensures
