use Rattle.gr_model.proofs.Common.{rules, true, append_assoc, ◌≡◌, ◌∙◌, ◌++◌, ◌∷◌, [], List, IfSome, ap, sym, subst}
use Rattle.gr_clocks.specs.ClockedAccess.{ClockedAccess}
use Rattle.gr_route.specs.declared.work.Work.{Work}
use Rattle.gr_route.specs.declared.work.Work.TheVariants.{Stop}
use Rattle.gr_route.specs.WorkRule.{is_stopped}
use Rattle.gr_route.specs.WorkSeats.{Worker}
use Rattle.gr_shadow.specs.Launches.{StandsForLaunch}
use Rattle.gr_threads.specs.Given.{accesses_in}
use Rattle.gr_threads.proofs.Givens.{more_given, stop_stops}
use Rattle.gr_threads.proofs.worker.work.Goals as goal

pub loop-preserved : goal.loop-preserved
loop-preserved g c =
    let was = c.loop.seat.popped in
    let batch = c.in-Some-pop_all.batch in
    let popped : c.pop_all.new.worker.popped ≡ was ++ batch = ap (λ (w : Worker g.row.A.Denot). w.popped) c.in-Some-pop_all.ensures.some in
    let given : accesses_in c.pop_all.new.worker.popped ≡ accesses_in was ++ accesses_in batch = ap accesses_in popped ∙ more_given was batch in (
      search rules,
      search rules,
      subst (λ (l : List ClockedAccess). IfSome c.shade_batch-shadows.result (StandsForLaunch l)) (sym given) (c.shade_batch-shadows.ensures (accesses_in was) c.loop.invariant.2),
    )

pub invariant_of-result : goal.invariant_of-result
invariant_of-result g c =
    let was = c.loop.seat.popped in
    let batch = c.in-Some-pop_all.batch in
    let popped : c.pop_all.new.worker.popped ≡ was ++ batch = ap (λ (w : Worker g.row.A.Denot). w.popped) c.in-Some-pop_all.ensures.some in
    let before = c.last.ensures.0 in
    let last : batch ≡ before ++ Stop ∷ [] = c.last.ensures.1 ∙ ap (λ (x : Work g.row.A.Denot). before ++ x ∷ []) c.in-Stop.is in
    let stopped : is_stopped c.pop_all.new.worker.popped ≡ true = ap is_stopped (popped ∙ ap (λ l. was ++ l) last ∙ sym (append_assoc was before (Stop ∷ []))) ∙ stop_stops (was ++ before) in
    let given : accesses_in c.pop_all.new.worker.popped ≡ accesses_in was ++ accesses_in batch = ap accesses_in popped ∙ more_given was batch in (
      search rules,
      stopped,
      subst (λ (l : List ClockedAccess). IfSome c.shade_batch-shadows.result (StandsForLaunch l)) (sym given) (c.shade_batch-shadows.ensures (accesses_in was) c.loop.invariant.2),
    )
