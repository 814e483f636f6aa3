use Rattle.gr_model.proofs.Common.{◌≡◌, arith, refl, true}
use Rattle.gr_shadow.specs.Lent.{lent_clocked}
use Rattle.gr_shadow.specs.Launches.{accesses_in, is_global}
use Rattle.gr_shadow.proofs.LaunchLemmas.{hit_by_part}
use Rattle.gr_shadow.proofs.launch.LaunchShadows.apply_lent.Goals as goal

pub returns-in_ok-hit-in-Global-clause-word : goal.returns-in_ok-hit-in-Global-clause-word
returns-in_ok-hit-in-Global-clause-word g c accesses stands w =
    let is : is_global c.args.access.now.word ≡ true = rw c.in-Global.is refl in
    let before = rw (← c.self.view_is) at stands in
    grind (arith, c.in_ok-hit-in-Global.ensures.word (accesses_in is_global accesses) before.global w, hit_by_part is_global accesses (lent_clocked c.args.access.now) is w)
