use Rattle.gr_model.proofs.Common.{◌≡◌, drop}
use Rattle.gr_races.specs.Listing.{kinds_after, kinds_of}
use Rattle.gr_races.proofs.listing.kinds_of.Given as goal

abbrev pub invariant-loop-row : goal.invariant-loop-row
invariant-loop-row g l = kinds_of l.rows ≡ kinds_after l.kinds.items (drop l.row-index l.rows)
