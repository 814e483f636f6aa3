use Rattle.gr_model.proofs.Common.{◌<◌, ℕ, get_or, []}
use Rattle.gr_clocks.specs.Blocks.{IsRowWithin}
use Rattle.gr_clocks.proofs.page.Page.is_within.Given as goal

abbrev pub invariant-loop-group : goal.invariant-loop-group
invariant-loop-group g l = (p : ℕ) → p < l.group → IsRowWithin (get_or l.self p []) (get_or l.other p [])
