use Rattle.gr_model.proofs.Common.{◌≡◌, ◌∙◌, ◌+◌, ◌++◌, ◌∷◌, [], List, append-nil, append_assoc, ap, arith, drop, refl, subst, sym, drop_all}
use Rattle.gr_clocks.specs.ClockedAccess.{ClockedAccess}
use Rattle.gr_route.specs.declared.work.Work.{Work}
use Rattle.gr_shadow.specs.Launches.{StandsForLaunch}
use Rattle.gr_threads.specs.Given.{accesses_in}
use Rattle.gr_threads.proofs.Givens.{more_given}
use Rattle.gr_threads.proofs.worker.shade_all.Goals as goal

pub loop-place-init : goal.loop-place-init
loop-place-init g c = ([], refl, (λ accesses was. subst (λ (l : List ClockedAccess). StandsForLaunch l c.args.shadows.now) (sym (append-nil accesses)) was))

pub loop-place-preserved : goal.loop-place-preserved
loop-place-preserved g c =
    let done = c.loop-place.invariant.0 in
    let batch = c.args.batch.now in
    let work = c.unwrap.result.now in
    let rest = drop (c.loop-place.place + 1) batch in
    let next : drop c.loop-place.place batch ≡ work ∷ rest = rw c.unwrap.ensures at c.get.ensures in (
      done ++ work ∷ [],
      c.loop-place.invariant.1 ∙ ap (λ l. done ++ l) next ∙ sym (append_assoc done (work ∷ []) rest),
      (λ accesses was.
          subst (λ (l : List ClockedAccess). StandsForLaunch l c.shade.new.shadows) (append_assoc accesses (accesses_in done) (accesses_in (work ∷ [])) ∙ ap (λ l. accesses ++ l) (sym (more_given done (work ∷ []))))
          (c.in_ok-shade.ensures (accesses ++ accesses_in done) (c.loop-place.invariant.2 accesses was))),
    )

pub returns : goal.returns
returns g c accesses was =
    let done = c.loop-place.invariant.0 in
    let batch = c.args.batch.now in
    let all : done ≡ batch = sym (c.loop-place.invariant.1 ∙ ap (λ l. done ++ l) (drop_all c.loop-place.place batch (omega (arith, c.loop-place-test.false, c.len-place-end.ensures.count))) ∙ append-nil done) in
    subst (λ (l : List (Work g.row.A.Denot)). StandsForLaunch (accesses ++ accesses_in l) c.loop-place.shadows) all (c.loop-place.invariant.2 accesses was)
