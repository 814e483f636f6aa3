use Rattle.gr_model.proofs.Common.{◌∙◌, ap, rules, sym, option_map}
use Rattle.gr_shadow.specs.Clashes.{clocked}
use Rattle.gr_world.proofs.InFlightLemmas.{passed_is_step, passed_is_world}
use Rattle.gr_world.proofs.world.World.pass.Goals as goal

pub invariant_of-self-2 : goal.invariant_of-self-2
invariant_of-self-2 g c =
    passed_is_world _ c.self.invariant _ _ _ (ap (option_map clocked) (sym c.take.ensures.value ∙ c.unwrap.ensures)) (cc) c.index_mut-worker.ensures.value _ _ (ap (option_map clocked) c.take.ensures.after) c.push.ensures

pub returns-clause-step : goal.returns-clause-step
returns-clause-step g c =
    rw (← c.self.view_is)
    (passed_is_step _ c.self.invariant _ _ _ (ap (option_map clocked) (sym c.take.ensures.value ∙ c.unwrap.ensures)) (cc) c.index_mut-worker.ensures.value _ _ (ap (option_map clocked) c.take.ensures.after) c.push.ensures (c.has_room.ensures.0 (search rules)))
