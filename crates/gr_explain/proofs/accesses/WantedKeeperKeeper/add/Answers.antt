use Rattle.gr_model.proofs.Common.{arith, refl}
use Rattle.gr_shadow.specs.Lent.{lent_clocked}
use Rattle.gr_explain.proofs.KeptLemmas.{unwanted_added, wanted_added}
use Rattle.gr_explain.proofs.accesses.WantedKeeperKeeper.add.Goals as goal

pub returns-in_ok-insert : goal.returns-in_ok-insert
returns-in_ok-insert g c accesses those =
    wanted_added c.args.self.now.wanted.now.keys accesses (lent_clocked c.args.access.now) c.args.kept.now.entries c.insert.new.self.entries c.in_ok-owned.owned c.in_ok-owned.ensures (rw c.event_of-event.ensures at c.in_ok-insert.ensures.updates.0) those

pub returns-else-contains : goal.returns-else-contains
returns-else-contains g c accesses those =
    unwanted_added c.args.self.now.wanted.now.keys accesses (lent_clocked c.args.access.now) c.args.kept.now.entries c.args.kept.now.entries (λ has. grind (arith, has)) refl those
