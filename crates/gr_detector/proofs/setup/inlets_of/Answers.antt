use Rattle.gr_model.proofs.Common.{◌≡◌, ◌∷◌, [], arith, ap, length, length-append, All-push}
use Rattle.gr_route.specs.IntakeRule.{no_sizes}
use Rattle.gr_route.specs.IntakeSeats.{Taker}
use Rattle.gr_detector.proofs.setup.inlets_of.Goals as goal

pub loop-init : goal.loop-init
loop-init g c =
    let none = ap length c.new-inlets.ensures.items in
    (none, λ q d lt. absurd (omega (arith, lt, none)))

pub loop-preserved : goal.loop-preserved
loop-preserved g c =
    let inv = c.loop.invariant in
    let pushed = c.in_ok-push.ensures.items in
    let new = c.in_ok-new.ensures in (
      omega (arith, ap length pushed, length-append c.loop.inlets.items (c.in_ok-new.field-0 ∷ []), inv.0),
      rw pushed (All-push (λ (t : Taker). (t.popped ≡ []) × (t.sizes ≡ no_sizes)) c.loop.inlets.items c.in_ok-new.field-0 inv.1 (ap (λ (t : Taker). t.popped) new, ap (λ (t : Taker). t.sizes) new)),
    )
