use Rattle.gr_model.proofs.Common.{◌<◌, ◌≤◌, ◌∙◌, length, ap, arith}
use Rattle.gr_lanes.specs.Remembered.{Remembered}
use Rattle.gr_races.proofs.TakenLists.{all_are_taken, lanes_are_new, list_taken}
use Rattle.gr_races.proofs.taken.take_all.Goals as goal

pub loop-group-init : goal.loop-group-init
loop-group-init g c = record {
  taken = lanes_are_new c.args.traces.now c.in_ok-lanes.lanes.streams c.in_ok-copy.field-0 c.shape.ensures.accepted.count (c.in_ok-copy.ensures ∙ c.shape.ensures.sizes) c.in_ok-lanes.ensures.nothing;
  whole = c.in_ok-lanes.ensures.whole;
}

pub take_list-requires-clause-accepted : goal.take_list-requires-clause-accepted
take_list-requires-clause-accepted g c =
    let s = c.args.traces.now in
    let there : c.loop-group.group < length s.sizes = omega (arith, ap length c.shape-2.ensures.sizes) in
    rw c.list.ensures.list (rw c.loop-group.invariant.taken.sizes (c.shape.ensures.accepted.each c.loop-group.group there))

pub loop-group-preserved : goal.loop-group-preserved
loop-group-preserved g c =
    let s = c.args.traces.now in
    let there : c.loop-group.group < length s.lists = omega (arith, ap length c.shape-2.ensures.sizes, c.shape.ensures.accepted.count) in
    record {
      taken = list_taken s c.loop-group.group c.loop-group.lanes.streams c.take_list.new.lanes.streams c.list.result.now there c.loop-group.invariant.taken c.list.ensures.list (ap (λ (r : Remembered). r.streams) c.in_ok-take_list.ensures);
      whole = let h = c.loop-group.invariant.whole in rw c.in_ok-take_list.ensures (record { groups = record { forgotten = h.groups.forgotten; decided = h.groups.decided }; forgotten = h.forgotten; decided = h.decided });
    }

pub returns-clause-streams : goal.returns-clause-streams
returns-clause-streams g c =
    let s = c.args.traces.now in
    let all : length s.lists ≤ c.loop-group.group = omega (arith, ap length c.shape-2.ensures.sizes, c.shape.ensures.accepted.count) in
    all_are_taken s c.loop-group.group c.loop-group.lanes.streams all c.loop-group.invariant.taken
