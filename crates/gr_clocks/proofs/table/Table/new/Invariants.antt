use Rattle.gr_model.proofs.Common.{slice_index}
use Rattle.gr_clocks.specs.Groups.{no_group, IsShared}
use Rattle.gr_clocks.proofs.RowLemmas.{AreEach}
use Rattle.gr_clocks.proofs.table.Table.new.Given as goal

abbrev pub invariant-loop-group : goal.invariant-loop-group
invariant-loop-group g l = AreEach (λ p x. IsShared l.zero.value p (slice_index l.shape p) x) no_group l.groups.items l.group
