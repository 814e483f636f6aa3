use Rattle.gr_model.proofs.Common.{◌≡◌, ◌∙◌, ◌+◌, arith, refl, sym, true≢false}
use Rattle.gr_model.specs.Prelude.{size_of}
use Rattle.gr_barriers.proofs.SummaryLemmas.{nobody_diverges}
use Rattle.gr_lanes.proofs.InstanceLemmas.{diverges_still, not_divergent}
use Rattle.gr_lanes.proofs.instance.is_divergent.Goals as goal

pub returns-then-none_differs : goal.returns-then-none_differs
returns-then-none_differs g c =
    (λ no. absurd cc, λ divergent. absurd (not_divergent c.args.lanes.now.streams c.args.group c.args.number (c.none_differs.ensures c.if-none_differs.true) divergent))

pub loop-item-init : goal.loop-item-init
loop-item-init g c = (c.new-summary.ensures _, nobody_diverges c.is_complete-ended.result 0 _ (λ i below. absurd (omega (arith, below))))

pub loop-item-preserved : goal.loop-item-preserved
loop-item-preserved g c =
    let more = c.adding-summary.ensures c.loop-item.item _ c.loop-item.invariant.0 (sym c.arrival.ensures) in
    (more, λ divergent. true≢false (sym ((c.is_divergent.ensures (c.loop-item.item + 1) _ more).1 divergent) ∙ c.if-is_divergent.false))

pub returns-then-is_divergent : goal.returns-then-is_divergent
returns-then-is_divergent g c =
    let more = c.adding-summary.ensures c.loop-item.item _ c.loop-item.invariant.0 (sym c.arrival.ensures) in
    let size = rw c.shape.ensures.sizes at c.items-item-end.ensures.size in
    let divergent = diverges_still c.is_complete-ended.result (c.loop-item.item + 1) (size_of c.args.lanes.now.streams c.args.group) _ (omega (arith, size, c.loop-item-test.true)) ((c.is_divergent.ensures (c.loop-item.item + 1) _ more).0 c.if-is_divergent.true) in
    (λ yes. rw (← c.is_complete-ended.ensures) divergent, λ _. refl)

pub returns : goal.returns
returns g c =
    let size = rw c.shape.ensures.sizes at c.items-item-end.ensures.size in
    let whole : size_of c.args.lanes.now.streams c.args.group ≡ c.loop-item.item = omega (arith, size, c.loop-item-test.false) in
    (λ no. absurd (true≢false (sym no)), λ divergent. absurd (c.loop-item.invariant.1 (rw whole at (rw (← c.is_complete-ended.ensures) at divergent))))
