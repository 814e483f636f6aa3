-- How many records of each kind a launch has.
-- Source: docs/OUTPUT.md, "check".
use Rattle.std.specs.Prelude.{ℕ, Bool, true, false, List, length, filter, sum}
use Rattle.std.specs.List.{sum_by}
use Rattle.gr_places.specs.Types.{Event, Counts, RecordKind}
use Rattle.gr_record.specs.Types.{Barrier, End, Kind, Load, Read, Rmw, Store, Write}
use Rattle.gr_model.specs.Prelude.{Streams}
use Rattle.gr_places.specs.declared.counts.RecordKind.TheVariants as kinds

-- whether a record is of this kind, or this is any kind, whatever the record's scope, its order and its flags are
abbrev pub is_of_kind : RecordKind → Kind → Bool
is_of_kind kinds.Any kind = true
is_of_kind kinds.Read Read = true
is_of_kind kinds.Write Write = true
is_of_kind kinds.Load (Load scope order) = true
is_of_kind kinds.Store (Store scope order) = true
is_of_kind kinds.Rmw (Rmw scope order) = true
is_of_kind kinds.Barrier (Barrier global local) = true
is_of_kind kinds.End (End cut) = true
is_of_kind k e = false

-- how many records of this kind a list has
abbrev pub count_in : RecordKind → List Event → ℕ
count_in k list = length (filter (λ e. is_of_kind k e.kind) list)

-- how many records of this kind a launch has
abbrev pub count_of : RecordKind → Streams → ℕ
count_of k s = sum_by (count_in k) s.lists

-- how large a launch is, and how many records of each kind it has
abbrev pub counts : Streams → Counts
counts s = record {
  groups = length s.sizes;
  items = sum s.sizes;
  records = count_of kinds.Any s;
  reads = count_of kinds.Read s;
  writes = count_of kinds.Write s;
  loads = count_of kinds.Load s;
  stores = count_of kinds.Store s;
  rmws = count_of kinds.Rmw s;
  barriers = count_of kinds.Barrier s;
  ends = count_of kinds.End s;
}
