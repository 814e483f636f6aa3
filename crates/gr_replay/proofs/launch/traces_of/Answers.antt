use Rattle.gr_model.proofs.Common.{refl, subst, sym, ◌∙◌}
use Rattle.gr_model.specs.Prelude.{IsShape, IsShapeFault, Streams, AreAccepted}
use Rattle.gr_replay.specs.InMemory.{flats}
use Rattle.gr_intake.specs.Launch.{IsLaunchOf}
use Rattle.gr_intake.proofs.Judged.{launch_accepts}
use Rattle.gr_replay.proofs.Launching.{launch_of, missing_permutation, launch_is, is_launch}
use Rattle.gr_replay.proofs.launch.traces_of.Goals as goal

pub returns-in-Some-clause-fault : goal.returns-in-Some-clause-fault
returns-in-Some-clause-fault g c = missing_permutation _ _ c.order_by_group.ensures.same c.in-Some.group (rw c.deref.ensures.value at c.in-Some.ensures)

pub returns-in-Err-clause-fault : goal.returns-in-Err-clause-fault
returns-in-Err-clause-fault g c =
    let placed = rw c.deref.ensures.value at c.in_default.ensures in
    let is = launch_is c.order_by_group.new.streams.items c.in_ok-sizes.sizes.items _ (rw c.deref-2.ensures.value at c.in_ok-sizes.ensures) refl in
    (launch_of _, is_launch _ _ c.order_by_group.ensures.same placed, subst (λ (s : Streams). IsShapeFault s.sizes c.in-Err.error) is c.in-Err.ensures.refused)

pub unwrap-requires : goal.unwrap-requires
unwrap-requires g c =
    let placed = rw c.deref.ensures.value at c.in_default.ensures in
    let is = launch_is c.order_by_group.new.streams.items c.in-Ok.shape _ (c.in-Ok.ensures.sizes ∙ (rw c.deref-2.ensures.value at c.in_ok-sizes.ensures)) (rw c.deref-3.ensures.value at c.in_ok-lists.ensures) in
    let shape = subst (λ (s : Streams). IsShape s.sizes) is (rw c.in-Ok.ensures.sizes (c.in-Ok.ensures.accepted.0 refl)) in
    c.new.ensures.accepted.1 (subst AreAccepted (sym is) (launch_accepts _ _ c.requires (is_launch _ _ c.order_by_group.ensures.same placed) shape))

pub returns-clause-launch : goal.returns-clause-launch
returns-clause-launch g c =
    let placed = rw c.deref.ensures.value at c.in_default.ensures in
    let is = launch_is c.order_by_group.new.streams.items c.in-Ok.shape _ (c.in-Ok.ensures.sizes ∙ (rw c.deref-2.ensures.value at c.in_ok-sizes.ensures)) (rw c.deref-3.ensures.value at c.in_ok-lists.ensures) in
    subst (IsLaunchOf (flats c.args.streams.items)) (sym ((rw c.unwrap.ensures at c.new.ensures.lists) ∙ is)) (is_launch _ _ c.order_by_group.ensures.same placed)
