use Rattle.gr_model.proofs.Common.{◌≡◌, ◌++◌, ◌∷◌, [], arith, ap, length, length-append, map-append, common_steps}
use Rattle.gr_route.specs.WorkSeats.{Giver, Worker}
use Rattle.gr_detector.proofs.setup.workers_of.Goals as goal

pub loop-number-preserved : goal.loop-number-preserved
loop-number-preserved g c =
    let inv = c.loop-number.invariant in
    let os = c.loop-number.outlets.items in
    let ws = c.loop-number.workers.items in
    let o = c.in_ok-outlet.outlet in
    let w = c.in_ok-outlet.worker in
    let outs : c.push.new.self.items ≡ os ++ o ∷ [] = c.in_ok-push.ensures.items in
    let wors : c.push-in-loop-number.new.self.items ≡ ws ++ w ∷ [] = c.in_ok-push-2.ensures.items in
    let works = map-append (λ (u : Worker g.row.A.Denot). u.queue) ws (w ∷ []) in (
      omega (arith, ap length outs, length-append os (o ∷ []), inv.0),
      omega (arith, ap length wors, length-append ws (w ∷ []), inv.1),
      rw (wors, outs, works, map-append (λ (u : Giver g.row.A.Denot). u.queue) os (o ∷ []), inv.2, c.in_ok-outlet.ensures.queue),
      λ k d lt. grind (arith, common_steps, outs, inv.3 k d, c.in_ok-outlet.ensures.pushed),
    )
