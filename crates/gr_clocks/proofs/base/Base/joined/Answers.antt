use Rattle.gr_model.proofs.Common.{arith}
use Rattle.gr_clocks.proofs.PageLemmas.{pages_joined_all}
use Rattle.gr_clocks.proofs.RowLemmas.{more_are_each}
use Rattle.gr_clocks.proofs.base.Base.joined.Goals as goal

pub loop-place-preserved : goal.loop-place-preserved
loop-place-preserved g c = more_are_each c.loop-place.invariant c.in_ok-push.ensures.pushed c.in_ok-joined_page.ensures.join

pub returns-clause-join : goal.returns-clause-join
returns-clause-join g c =
    let all = c.loop-place.invariant in
    rw (← c.self.view_is, ← c.other.view_is) (pages_joined_all c.self.inside.pages c.other.inside.pages c.loop-place.pages (omega (arith, all.size)) (omega (arith, all.size)) (λ p there. all.each p (omega (arith, all.size))))
