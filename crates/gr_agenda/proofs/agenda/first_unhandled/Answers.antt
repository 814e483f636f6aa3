use Rattle.gr_model.proofs.Common.{arith, refl, subst, sym, get_or_default, All-from_all_within, All-same, AllWithin-more, AllWithin-upto}
use Rattle.gr_agenda.specs.Kept.{IsReleaseHandled}
use Rattle.gr_agenda.proofs.agenda.first_unhandled.Goals as goal

pub loop-name-preserved : goal.loop-name-preserved
loop-name-preserved g c =
    let q = c.args.order.now in
    let names = c.as_slice-names.result.now in
    AllWithin-more (IsReleaseHandled q.taken q.handled) names 0 c.loop-name.name-index c.loop-name.invariant
    (λ d. subst (IsReleaseHandled q.taken q.handled) (get_or_default names c.loop-name.name-index _ d c.loop-name-test.true) (c.if-not-is_handled.ensures.0 refl))

pub returns : goal.returns
returns g c =
    let q = c.args.order.now in
    let names = c.as_slice-names.result.now in
    All-same (IsReleaseHandled q.taken q.handled) c.args.event.now.names names (sym c.as_slice-names.ensures.names)
    (All-from_all_within (IsReleaseHandled q.taken q.handled) names (AllWithin-upto (IsReleaseHandled q.taken q.handled) names 0 c.loop-name.name-index _ (omega arith) c.loop-name.invariant))
