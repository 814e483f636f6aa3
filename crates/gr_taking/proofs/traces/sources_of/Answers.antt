use Rattle.gr_model.proofs.Common.{◌≡◌, ap, arith, length, sym, ◌∙◌, get_or-map-range_with_len, length-map-range_with_len, map-range_with_len_more}
use Rattle.gr_taking.proofs.Lists.{read_list}
use Rattle.gr_taking.proofs.traces.sources_of.Goals as goal

pub loop-group-preserved : goal.loop-group-preserved
loop-group-preserved g c = rw (c.in_ok-push.ensures.items, c.new.ensures, c.list.ensures.list, c.loop-group.invariant) (sym (map-range_with_len_more _ 0 c.loop-group.group c.loop-group.group (omega arith)))

pub returns : goal.returns
returns g c =
    let items = c.loop-group.invariant in
    let count : length c.loop-group.sources.items ≡ c.loop-group.group = ap length items ∙ length-map-range_with_len _ 0 _ in
    record {
      count = omega (arith, count, c.loop-group-test.false, c.loop-group.auto.group-end, c.groups-group-end.ensures.count, ap length c.shape.ensures.sizes);
      each = λ k d lt. rw (read_list (g.R.Reading.read_as c.args.reading) c.args.traces.now k, items) (get_or-map-range_with_len _ 0 c.loop-group.group k k d (omega (arith, lt, count)) (omega arith));
    }
