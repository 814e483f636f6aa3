use Rattle.gr_model.proofs.Common.{ap, arith, refl}
use Rattle.gr_model.specs.declared.event.ItemId.{ItemId}
use Rattle.gr_model.specs.declared.event.Space.TheVariants.{Global}
use Rattle.gr_model_tests.proofs.States.{not_spent, counts_one}
use Rattle.gr_model_tests.proofs.facts.clocks.access_in_counts_the_access.Goals as goal

pub access_in-requires-clause-room : goal.access_in-requires-clause-room
access_in-requires-clause-room c = not_spent _ c.in_ok-clocks.ensures

pub prove-unreachable-requires : goal.prove-unreachable-requires
prove-unreachable-requires c =
    let one = counts_one _ c.in_ok-clocks.ensures Global _ _ c.in_ok-clock.ensures.ok c.in_ok-clock.ensures.clock in
    grind (arith, one)

pub prove-unreachable-requires-2 : goal.prove-unreachable-requires-2
prove-unreachable-requires-2 c =
    let one = counts_one _ c.in_ok-clocks.ensures Global _ _ c.in_ok-clock.ensures.ok c.in_ok-clock.ensures.clock in
    let none = c.lacks.ensures c.if-prove-2.true (record { group = 1; item = 0 }) refl (λ same. let items = ap (λ (i : ItemId). i.item) same in omega (arith, items)) in
    grind (arith, one, none)

pub prove-unreachable-requires-3 : goal.prove-unreachable-requires-3
prove-unreachable-requires-3 c =
    let one = counts_one _ c.in_ok-clocks.ensures Global _ _ c.in_ok-clock.ensures.ok c.in_ok-clock.ensures.clock in
    let none = c.lacks_all.ensures c.if-prove-3.true (record { group = 1; item = 0 }) (λ same. let items = ap (λ (i : ItemId). i.item) same in omega (arith, items)) in
    grind (arith, one, none)
