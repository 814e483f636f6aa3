use Rattle.gr_clocks.specs.Groups.{owned_in_group}
use Rattle.gr_clocks.proofs.TableLemmas.{item_group, item_groups, ticks_item}
use Rattle.gr_clocks.proofs.table.Table.tick.Goals as goal

pub tick_item-requires-clause-room : goal.tick_item-requires-clause-room
tick_item-requires-clause-room g c =
    rw (item_group c.self.inside.groups.items c.self.invariant c.self.view_is c.args.item c.requires.item c.index_mut.ensures.value) c.requires.room

pub invariant_of-self : goal.invariant_of-self
invariant_of-self g c =
    item_groups c.self.inside.groups.items c.self.invariant c.self.view_is c.args.item (owned_in_group c.tick_item.new.self c.args.item.item) c.requires.item c.index_mut.ensures.value c.tick_item.ensures.group

pub returns : goal.returns
returns g c =
    let item = c.args.item in
    let read = item_group c.self.inside.groups.items c.self.invariant c.self.view_is item c.requires.item c.index_mut.ensures.value in
    ticks_item c.self.inside.groups.items c.self.invariant c.self.view_is item (owned_in_group c.tick_item.new.self item.item) c.requires.item c.index_mut.ensures.value c.tick_item.ensures.group (rw read at c.tick_item.ensures.tick)
