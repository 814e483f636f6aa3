use Rattle.gr_model.proofs.Common.{◌≡◌, map, take}
use Rattle.gr_races.specs.Listing.{entry, entry_of}
use Rattle.gr_races.proofs.listing.list_kinds.Given as goal

abbrev pub invariant-loop-kind : goal.invariant-loop-kind
invariant-loop-kind g l = map entry_of l.entries.items ≡ map (entry l.rows) (take l.kind-index l.kind-items)
