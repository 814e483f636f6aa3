use Rattle.gr_model.proofs.Common.{arith, length, ◌≤◌, take_all}
use Rattle.gr_streams.proofs.SeenLemmas.{launch}
use Rattle.gr_streams.proofs.seen.Seen.sizes.Goals as goal

pub returns-clause-launch : goal.returns-clause-launch
returns-clause-launch g c =
    let inv = c.loop-group.invariant in
    let groups = c.self.inside.groups in
    let whole : length groups ≤ c.loop-group.group = omega (arith, c.groups-group-end.ensures.count, c.loop-group-test.false) in
    rw (← c.self.view_is, inv.sizes, take_all c.loop-group.group groups whole)
    (launch groups c.self.inside.headers.items c.self.invariant (λ k lt. inv.some k (omega (arith, lt, whole))))
