use Rattle.gr_model.proofs.Common.{◌∙◌, sym, ap}
use Rattle.gr_clocks.specs.ClockedAccess.{ClockedAccess}
use Rattle.gr_shadow.specs.Clashes.{event_of}
use Rattle.gr_shadow.specs.Lent.{lent_clocked}
use Rattle.gr_shadow.specs.StandsFor.{accesses_to}
use Rattle.gr_timeline.proofs.HistoryLemmas.{entry_added}
use Rattle.gr_timeline.proofs.history.WordKeeperKeeper.add.Goals as goal

pub returns-in_ok-push : goal.returns-in_ok-push
returns-in_ok-push g c accesses kept =
    let w = c.args.self.now.word in
    let y = lent_clocked c.args.access.now in
    entry_added w accesses y c.args.kept.now.entries.items c.push.new.self.items (record { event = event_of y; clock = c.in_ok-owned.owned.clock }) c.args.kept.now.shadows c.apply_lent.new.self c.in_ok-push.ensures.items (ap (λ (z : ClockedAccess). (event_of y, z.clock)) c.in_ok-owned.ensures) (sym c.eq.ensures ∙ c.if-eq.true)
    (c.in_ok-apply_lent.ensures.stands (accesses_to w accesses) kept.1) kept
