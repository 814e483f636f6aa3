use Rattle.gr_model.proofs.Common.{◌≡◌, ◌∙◌, ap, subst, sym}
use Rattle.gr_steps.proofs.Resting.{rest_grounded}
use Rattle.gr_world.specs.Worlds.{IsWorldAtRest, World, world_of}
use Rattle.gr_world.proofs.RestLemmas.{drained_is_sent, races_are_told}
use Rattle.gr_world.proofs.world.World.report.Goals as goal

pub returns : goal.returns
returns g c =
    let w : World = world_of c.self.inside.config c.self.inside.sent.streams c.self.inside.intakes.items c.self.inside.sequencer c.self.inside.in_flight c.self.inside.workers.items in
    let rest : IsWorldAtRest w = subst IsWorldAtRest (sym c.self.view_is) c.requires in
    let taken : w.sequence.taken ≡ w.sent = drained_is_sent w c.self.invariant rest.intakes in
    let sent : w.sent ≡ c.args.self.now.sent = ap (λ (v : World). v.sent) c.self.view_is in
    record {
      rest = rw (← (taken ∙ sent)) c.in_ok-report.ensures.but_races;
      races = rw (c.in_ok-report.ensures.races, ← sent)
          (races_are_told w c.self.invariant rest c.in_ok-races.races.items (record { rest = rest.rest; grounded = rest_grounded w.sequence.taken w.sequence.handled c.self.invariant.sequence.lawful rest.rest })
          (rw (← c.self.view_is) at c.in_ok-races.ensures));
    }
