use Rattle.gr_model.proofs.Common.{◌<◌, arith, length}
use Rattle.gr_shadow.specs.Launches.{accesses_in, is_local_of}
use Rattle.gr_shadow.proofs.LaunchLemmas.{local_at, local_put}
use Rattle.gr_shadow.proofs.launch.LaunchShadows.close.Goals as goal

pub returns-then-place-len : goal.returns-then-place-len
returns-then-place-len g c accesses stands =
    let place = c.from-place.result in
    let before = rw (← c.self.view_is) at stands in
    let lt : place < length c.self.inside.local.items = omega (arith, c.if-place-len.true, c.len.ensures, c.self.inside.local.ok.0) in
    local_put place c.give_up.new.local lt before (c.give_up.ensures (accesses_in (is_local_of place) accesses) (local_at place c.index_mut.result.now lt c.index_mut.ensures.value before))
