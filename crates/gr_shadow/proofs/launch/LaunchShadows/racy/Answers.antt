use Rattle.gr_model.proofs.Common.{◌≡◌, ap, arith, inl, length}
use Rattle.gr_shadow.specs.Launches.{accesses_in, is_global, is_local_of}
use Rattle.gr_shadow.proofs.LaunchLemmas.{below_more, below_none, hit_below, iff_more, local_at}
use Rattle.gr_shadow.proofs.MapLemmas.{iff_trans}
use Rattle.gr_shadow.proofs.launch.LaunchShadows.racy.Goals as goal

pub loop-local-init : goal.loop-local-init
loop-local-init g c accesses stands w =
    let before = rw (← c.self.view_is) at stands in
    let listed = c.in_ok-words.ensures (accesses_in is_global accesses) before.global in
    (λ h. inl ((listed.exact w).0 h), λ h. (listed.exact w).1 (below_none accesses w h))

pub loop-local-preserved : goal.loop-local-preserved
loop-local-preserved g c accesses stands w =
    let i = c.loop-local.local-index in
    let before = rw (← c.self.view_is) at stands in
    let lt = rw c.deref-local-items.ensures.value at c.loop-local-test.true in
    let item = local_at i c.local-item.result lt (rw c.deref-local-items.ensures.value at c.local-item.is) before in
    iff_more (c.in_ok-add_racy.ensures (accesses_in (is_local_of i) accesses) item w) (c.loop-local.invariant accesses stands w) (below_more accesses i w)

pub returns : goal.returns
returns g c accesses stands =
    let before = rw (← c.self.view_is) at stands in
    let all : length c.self.inside.local.items ≡ c.loop-local.local-index = omega (arith, c.loop-local-test.false, c.loop-local.auto.local-index-end, ap length c.deref-local-items.ensures.value) in
    record {
      ascending = c.order_words.ensures.ascending;
      exact = λ w. iff_trans (c.order_words.ensures.exact w) (iff_trans (c.loop-local.invariant accesses stands w) (rw all at (hit_below before w)));
    }
