use Rattle.gr_model.proofs.Common.{◌<◌, List, Some, arith, length, on_ok_weaker, on_err_weaker}
use Rattle.gr_clocks.specs.ClockedAccess.{ClockedAccess}
use Rattle.gr_shadow.specs.Lent.{lent_clocked}
use Rattle.gr_shadow.specs.Launches.{LaunchKept, StandsForLaunch, StandsForLocal, accesses_in, is_local_of}
use Rattle.gr_shadow.proofs.LaunchLemmas.{answers_by_part, local_at, local_more, local_put}
use Rattle.gr_shadow.proofs.launch.LaunchShadows.apply_local.Given as given
use Rattle.gr_shadow.proofs.launch.LaunchShadows.apply_local.Goals as goal

abbrev inside : (g : given.Over) (c : goal.After-self-1 g) → LaunchKept
inside g c = record { global = c.self.inside.global; local = c.self.inside.local.items }

-- the shadows of the group, for which there is room
there : (g : given.Over) (c : goal.After-self-1 g) → c.from.result < length c.self.inside.local.items
there g c = omega (arith, rw (← c.self.view_is) at c.in_ok-make_room.ensures.room, c.from.ensures)

before : (g : given.Over) (c : goal.After-self-1 g) (accesses : List ClockedAccess) → StandsForLaunch accesses c.args.self.now → StandsForLaunch accesses (inside g c) × StandsForLocal (accesses_in (is_local_of c.from.result) accesses) (Some c.index_mut.result.now)
before g c accesses stands =
    let all = rw (← c.self.view_is) at (c.in_ok-make_room.ensures.stands accesses stands) in
    (all, local_at c.from.result c.index_mut.result.now (there g c) c.index_mut.ensures.value all)

pub returns-clause-stands : goal.returns-clause-stands
returns-clause-stands g c accesses stands =
    let old = before g c accesses stands in
    let is = rw (← c.from.ensures) at c.requires in
    on_ok_weaker c.apply_to.result (local_more (lent_clocked c.args.access.now) c.from.result c.apply_to.new.local is (there g c) old.0) (c.apply_to.ensures.stands (accesses_in (is_local_of c.from.result) accesses) old.1)

pub returns-clause-err : goal.returns-clause-err
returns-clause-err g c accesses stands =
    let old = before g c accesses stands in
    on_err_weaker c.apply_to.result (λ same. local_put c.from.result c.apply_to.new.local (there g c) old.0 (rw same (old.1))) c.apply_to.ensures.err

pub returns-clause-word : goal.returns-clause-word
returns-clause-word g c accesses stands =
    let part = accesses_in (is_local_of c.from.result) accesses in
    answers_by_part (is_local_of c.from.result) accesses (lent_clocked c.args.access.now) (rw c.from.ensures c.requires) c.apply_to.result (c.apply_to.ensures.word part (before g c accesses stands).1)
