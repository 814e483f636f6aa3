use Rattle.gr_model.proofs.Common.{◌-◌, length}
use Rattle.gr_clocks.specs.Counts.{CountSame}
use Rattle.gr_clocks.specs.Pages.{whole}
use Rattle.gr_clocks.proofs.base.reach.Given as goal

abbrev pub invariant-loop-pages : goal.invariant-loop-pages
invariant-loop-pages g l = CountSame (whole l.pages) (whole l.initial.pages)

abbrev pub decreases-loop-pages : goal.decreases-loop-pages
decreases-loop-pages g l = l.count - length l.pages
