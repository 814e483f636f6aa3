use Rattle.gr_model.proofs.Common.{◌∙◌, None, ap, replicate, subst, sym}
use Rattle.gr_model.specs.Prelude.{ArePrefixes}
use Rattle.gr_lanes.specs.Takes.{nothing_taken}
use Rattle.gr_world.specs.Queues.{empty_queue, no_work}
use Rattle.gr_world.specs.Worlds.{IsWorld}
use Rattle.gr_world.proofs.NewLemmas.{new_is_world}
use Rattle.gr_world.proofs.world.World.new.Goals as goal

pub returns-clause-made : goal.returns-clause-made
returns-clause-made g c =
    let sent = c.in_ok-sent.ensures.nothing ∙ ap nothing_taken c.in_ok-copy.ensures in
    let intakes = c.in_ok-intakes.ensures ∙ (λ k. replicate (c.queues.ensures.number k) (empty_queue (c.capacity.ensures.number k))) in
    let workers = c.in_ok-workers.ensures ∙ (λ k. replicate (c.workers.ensures.number k) (no_work (c.capacity-2.ensures.number k))) in
    λ k. record { config = c.args.config; sent = sent k; intakes = intakes k; sequence = c.in_ok-sequencer.ensures k; in_flight = None; workers = workers k }

pub invariant_of-result : goal.invariant_of-result
invariant_of-result g c =
    let sent = c.in_ok-sent.ensures.nothing ∙ ap nothing_taken c.in_ok-copy.ensures in
    subst IsWorld (sym (returns-clause-made g c)) (new_is_world c.args.shape c.args.config c.groups-groups.ensures.shape (subst ArePrefixes sent c.in_ok-sent.ensures.prefixes) c.queues.ensures.config)

pub returns-clause-world : goal.returns-clause-world
returns-clause-world g c = invariant_of-result g c
