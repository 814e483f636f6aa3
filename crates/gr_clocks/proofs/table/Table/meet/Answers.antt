use Rattle.gr_model.proofs.Common.{◌<◌, length, arith, length-map}
use Rattle.gr_clocks.specs.Groups.{item_of}
use Rattle.gr_clocks.proofs.TableLemmas.{item_group, joins_group, ticks_group}
use Rattle.gr_clocks.proofs.table.Table.meet.Goals as goal

pub returns-in-Some : goal.returns-in-Some
returns-in-Some g c =
    let there : c.args.group < length c.args.self.now = omega (arith, c.requires.group.0, length-map c.args.self.now length) in
    rw c.in-Some.is (joins_group c.self.inside.groups.items c.self.invariant c.self.view_is c.args.group there (rw c.in-Some.is at c.requires.met))

pub returns-in-None : goal.returns-in-None
returns-in-None g c =
    let there : c.args.group < length c.args.self.now = omega (arith, c.requires.group.0, length-map c.args.self.now length) in
    let read = item_group c.self.inside.groups.items c.self.invariant c.self.view_is (item_of c.args.group 0) c.requires.group c.index_mut-in-None.ensures.value in
    rw c.in-None.is (ticks_group c.self.inside.groups.items c.self.invariant c.self.view_is c.args.group there (rw read at c.tick.ensures))
