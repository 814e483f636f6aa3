use Rattle.gr_model.proofs.Common.{[]}
use Rattle.gr_clocks.specs.Counts.{IsJoin}
use Rattle.gr_clocks.specs.Pages.{page_at}
use Rattle.gr_clocks.proofs.RowLemmas.{AreEach}
use Rattle.gr_clocks.proofs.base.Base.joined.Given as goal

abbrev pub invariant-loop-place : goal.invariant-loop-place
invariant-loop-place g l = AreEach (λ p page. IsJoin (page_at l.self-inside.pages p) (page_at l.other-inside.pages p) page) [] l.pages l.place
