use Rattle.gr_model.proofs.Common.{◌≡◌, take}
use Rattle.gr_clocks.proofs.base.Base.copy.Given as goal

abbrev pub invariant-loop-place : goal.invariant-loop-place
invariant-loop-place g l = l.pages ≡ take l.place l.self-inside.pages
