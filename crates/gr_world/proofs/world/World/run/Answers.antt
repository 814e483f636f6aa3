use Rattle.gr_model.proofs.Common.{◌≡◌, ◌+◌, ◌<◌, ◌∷◌, [], ◌++◌, ℕ, slice_index_or, suc, List, length, subst, sym, take, arith, take_more}
use Rattle.gr_world.specs.declared.step.Step.{Step}
use Rattle.gr_world.specs.Steps.{Runs, made, nothing_tried, refused_once}
use Rattle.gr_world.specs.Worlds.{World}
use Rattle.gr_world.proofs.world.World.run.Goals as goal
use Rattle.gr_world.proofs.world.World.run.Goals.{in-Ok, in-Err}

pub loop-step-init : goal.loop-step-init
loop-step-init g c = record { runs = nothing_tried; few = omega arith }

-- one more step was tried
more_made : (old new : World) (steps : List Step) (i refused now : ℕ) (step : Step) → i < length steps → step ≡ slice_index_or steps i step → Runs old (take i steps ++ step ∷ []) new refused → now ≡ refused → Runs old (take (i + 1) steps) new now
more_made old new steps i refused now step lt at runs is = rw (is, take_more steps i step lt, ← at) runs

pub loop-step-preserved : goal.loop-step-preserved
loop-step-preserved g c = elim c.match-step.branch [
  | in-Ok v ↦ record {
    runs = more_made c.args.self.now c.step.new.self c.args.steps.now c.loop-step.step-index c.loop-step.refused c.match-step.refused c.step-item.result c.loop-step-test.true c.step-item.is
        (made c.step-item.result c.loop-step.invariant.runs v.in-Ok.ensures.step) v.refused-is;
    few = omega (arith, v.refused-is, c.loop-step.invariant.few);
  }
  | in-Err v ↦ record {
    runs = more_made c.args.self.now c.step.new.self c.args.steps.now c.loop-step.step-index (suc c.loop-step.refused) c.match-step.refused c.step-item.result c.loop-step-test.true c.step-item.is
        (subst (λ (w : World). Runs c.args.self.now (take c.loop-step.step-index c.args.steps.now ++ c.step-item.result ∷ []) w (suc c.loop-step.refused)) (sym v.in-Err.ensures.unchanged) (refused_once c.step-item.result v.in-Err.field-0 c.loop-step.invariant.runs v.in-Err.ensures.err))
        (omega (arith, v.refused-is));
    few = omega (arith, v.refused-is, c.loop-step.invariant.few);
  }
]
