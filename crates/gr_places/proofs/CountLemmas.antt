-- How many records of a kind a list has.
use Rattle.gr_model.proofs.Common.{◌≤◌, List, length}
use Rattle.gr_model.proofs.ListsOfRecords.{length-filter_le}
use Rattle.gr_places.specs.Types.{Event, RecordKind}
use Rattle.gr_places.specs.Counts.{count_in, is_of_kind}

pub not_more : (k : RecordKind) (list : List Event) → count_in k list ≤ length list
not_more k list = length-filter_le (λ e. is_of_kind k e.kind) list
