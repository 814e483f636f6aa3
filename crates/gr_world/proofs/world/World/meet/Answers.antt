use Rattle.gr_model.proofs.Common.{ℕ, rules, subst, err_from_is_err_and}
use Rattle.gr_order.specs.Sequences.{MeetsInstance, Sequence}
use Rattle.gr_sequencer.specs.Answers.{IsOfGroup, IsStep as IsSequencerStep}
use Rattle.gr_sequencer.specs.declared.handled.Handled.{Handled}
use Rattle.gr_sequencer.specs.declared.handled.Handled.TheVariants.{One, Meet as Met}
use Rattle.gr_world.proofs.InFlightLemmas.{meet_refused, meeting_is_world, met_is_step}
use Rattle.gr_world.proofs.world.World.meet.Goals as goal

-- the step of a group is a meeting of one of its instances
met : {Z : Type 0} (old new : Sequence) (g : ℕ) (h : Handled Z) → IsSequencerStep old new h → IsOfGroup g h → (k : ℕ) × MeetsInstance old g k new
met old new g (One e access) step of = absurd of
met old new g (Met f k) step of = (k, subst (λ n. MeetsInstance old n k new) of step)

pub invariant_of-self-2 : goal.invariant_of-self-2
invariant_of-self-2 g c =
    let meets = met c.self.inside.sequencer c.meet.new.self c.args.group c.in_ok-_met._met c.in_ok-_met.ensures.step c.in_ok-_met.ensures.group in
    meeting_is_world _ c.self.invariant c.args.group meets.0 c.meet.new.self meets.1 c.meet.ensures.sequence

pub returns-clause-step : goal.returns-clause-step
returns-clause-step g c =
    let meets = met c.self.inside.sequencer c.meet.new.self c.args.group c.in_ok-_met._met c.in_ok-_met.ensures.step c.in_ok-_met.ensures.group in
    rw (← c.self.view_is) (met_is_step _ c.args.group (search rules) meets.0 c.meet.new.self meets.1)

pub returns-in_err-_met-clause-err : goal.returns-in_err-_met-clause-err
returns-in_err-_met-clause-err g c =
    let p = err_from_is_err_and c.from_residual.result c.from_residual.ensures.1 in
    rw (← c.self.view_is, p.1) (meet_refused _ c.args.group (search rules) c.in_err-_met.field-0.0 p.0 p.2 c.in_err-_met.ensures.err)
