use Rattle.gr_model.proofs.Common.{rules}
use Rattle.gr_world.proofs.RestLemmas.{grounded, rests}
use Rattle.gr_world.proofs.InFlightLemmas.{no_in_flight}
use Rattle.gr_world.proofs.world.World.at_rest.Goals as goal

pub returns-clause-rest : goal.returns-clause-rest
returns-clause-rest g c =
    let both = rests _ _ c.self.invariant c.self.view_is (c.is_drained.ensures.0 (search rules)) (c.is_idle.ensures.0 (search rules)) (no_in_flight c.self.inside.in_flight (search rules)) in
    (λ yes. both.0 (c.at_end.ensures.ended.0 yes), λ at. c.at_end.ensures.ended.1 (both.1 at))

pub returns-clause-done : goal.returns-clause-done
returns-clause-done g c = λ yes. grounded _ _ c.self.invariant c.self.view_is (c.is_drained.ensures.0 (search rules)) (c.at_end.ensures.done yes).grounded
