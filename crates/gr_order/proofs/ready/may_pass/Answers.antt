use Rattle.gr_model.proofs.Common.{arith, refl}
use Rattle.gr_steps.proofs.BarrierPlaces.{barrier_there}
use Rattle.gr_order.proofs.ReadyLemmas.{passes_if, stands_there}
use Rattle.gr_order.proofs.ready.may_pass.Goals as goal

pub returns-in-Some : goal.returns-in-Some
returns-in-Some g c =
    let s = c.args.lanes.now.streams in (
      λ divergent. passes_if s c.requires.prefixes c.args.event c.args.taken.now c.requires.there c.in-Some.number c.in-Some.ensures (c.is_divergent.ensures.0 divergent),
      λ may. c.is_divergent.ensures.1 (may c.args.event.at.group c.in-Some.number (stands_there s c.requires.prefixes c.args.event c.args.taken.now c.requires.there c.in-Some.number c.in-Some.ensures)),
    )

pub returns-then-not-is_barrier : goal.returns-then-not-is_barrier
returns-then-not-is_barrier g c = (
  λ _ group k stands. absurd (grind (arith, barrier_there c.args.lanes.now.streams c.args.event group k stands, c.requires.there, c.is_barrier.ensures, c.if-not-is_barrier.true)),
  λ _. refl,
)
