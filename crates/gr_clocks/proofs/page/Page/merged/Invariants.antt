use Rattle.gr_model.proofs.Common.{get_or, []}
use Rattle.gr_clocks.specs.Blocks.{IsRowJoin}
use Rattle.gr_clocks.proofs.RowLemmas.{AreEach}
use Rattle.gr_clocks.proofs.page.Page.merged.Given as goal

abbrev pub invariant-loop-group : goal.invariant-loop-group
invariant-loop-group g l = AreEach (λ p row. IsRowJoin (get_or l.self p []) (get_or l.other p []) row) [] l.blocks.items l.group
