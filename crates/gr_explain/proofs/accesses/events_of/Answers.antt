use Rattle.gr_model.proofs.Common.{take, take_all, All-more, All-weaker}
use Rattle.gr_explain.specs.Accesses.{AreWanted}
use Rattle.gr_explain.proofs.accesses.events_of.Goals as goal

pub loop-race-preserved : goal.loop-race-preserved
loop-race-preserved g c =
    All-more (AreWanted c.add_pair.new.events.keys) c.args.races.now c.loop-race.race-index _ c.loop-race-test.true
    (All-weaker (AreWanted c.loop-race.events.keys) (AreWanted c.add_pair.new.events.keys) c.in_ok-add_pair.ensures.others (take c.loop-race.race-index c.args.races.now) c.loop-race.invariant) c.in_ok-add_pair.ensures.added

pub returns : goal.returns
returns g c = rw (← take_all c.loop-race.race-index c.args.races.now c.loop-race-test.false) c.loop-race.invariant
