use Rattle.gr_model.proofs.Common.{◌≡◌, take}
use Rattle.gr_clocks.proofs.page.Page.copy.Given as goal

abbrev pub invariant-loop-block : goal.invariant-loop-block
invariant-loop-block g l = l.blocks.items ≡ take l.block-index l.self
