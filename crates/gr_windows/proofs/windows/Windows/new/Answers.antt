use Rattle.gr_model.proofs.Common.{◌≡◌, ◌∙◌, ap, arith, map, take, take_all}
use Rattle.gr_windows.proofs.WindowLemmas.{none_of, new_empty}
use Rattle.gr_windows.proofs.windows.Windows.new.Goals as goal

pub returns : goal.returns
returns g c =
    let whole : take c.loop-group.group c.args.shape.now ≡ c.args.shape.now = take_all c.loop-group.group c.args.shape.now (omega (arith, c.groups-group-end.ensures.count)) in
    new_empty c.args.shape.now c.loop-group.rows.items (c.loop-group.invariant ∙ ap (map none_of) whole)
