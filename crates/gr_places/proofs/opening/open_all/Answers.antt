use Rattle.gr_model.proofs.Common.{inl, inr, refl}
use Rattle.std.specs.Fn.{FnReturnsAt}
use Rattle.gr_places.proofs.OpeningLemmas.{first_unopened, opened_more}
use Rattle.gr_places.proofs.opening.open_all.Goals as goal

pub returns-in-Err-clause-fault : goal.returns-in-Err-clause-fault
returns-in-Err-clause-fault g c =
    let first = first_unopened (FnReturnsAt g.O.Fn c.args.opener) c.args.names.now c.loop-name.name-index _ c.loop-name.files.items c.loop-name-test.true c.loop-name.invariant c.in-Err.error (record { shown = _; shows = refl; says = record { met = c.in-Err.ensures } }) in
    elim c.fault_of.ensures [ inl m ↦ inl m | inr r ↦ inr (r, first) ]

pub loop-name-preserved : goal.loop-name-preserved
loop-name-preserved g c =
    rw c.in_ok-keep-in-Ok.ensures
    (opened_more (FnReturnsAt g.O.Fn c.args.opener) c.args.names.now c.loop-name.name-index _ c.loop-name.files.items c.loop-name-test.true c.loop-name.invariant c.in-Ok.file (record { shown = _; shows = refl; says = record { met = c.in-Ok.ensures } }))
