use Rattle.gr_model.proofs.Common.{ap, ◌∙◌, sym}
use Rattle.gr_route.specs.WorkRule.{is_stopped}
use Rattle.gr_route.specs.WorkSeats.{Giver}
use Rattle.gr_sequencer_thread.specs.Feeds.{work_on_way}
use Rattle.gr_sequencer_thread.proofs.WayLemmas.{both_unstopped, unstopped_each}
use Rattle.gr_sequencer_thread.proofs.way.Way.pass.Goals as goal

pub push_all-requires-clause-accesses : goal.push_all-requires-clause-accesses
push_all-requires-clause-accesses g c = (unstopped_each c.in-Some.batch _ (ap is_stopped (sym c.in-Some.ensures.some) ∙ c.self.invariant)).0

pub invariant_of-self-in-Ok : goal.invariant_of-self-in-Ok
invariant_of-self-in-Ok g c =
    ap (λ o. is_stopped (work_on_way o c.take_first.new.batches.items c.take_first.new.waiting)) c.in-Some.ensures.refused
    ∙ (unstopped_each c.in-Some.batch _ (ap is_stopped (sym c.in-Some.ensures.some) ∙ c.self.invariant)).1

pub returns-in-Ok-clause-open : goal.returns-in-Ok-clause-open
returns-in-Ok-clause-open g c =
    ap (λ (u : Giver g.row.A.Denot). is_stopped u.pushed) c.in-Ok.ensures.ok
    ∙ both_unstopped c.args.outlet.now.pushed c.in-Some.batch c.requires.«open» (unstopped_each c.in-Some.batch _ (ap is_stopped (sym c.in-Some.ensures.some) ∙ c.self.invariant)).0
