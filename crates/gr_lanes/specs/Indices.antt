-- An index of each item's events in its group's list, and of its releases and barriers among its events.
use Rattle.std.specs.Prelude.{◌≡◌, ◌≢◌, ℕ, ◌<◌, ◌≤◌, ◌+◌, Option, Bool, List, [], ◌∷◌, ◌++◌, length, map, filter, true, MatchOption, None, Some, slice_get, slice_index, if◌then◌else◌}
use Rattle.gr_model.specs.declared.event.Event.{Event}
use Rattle.gr_model.specs.declared.report.Divergence.{Divergence}
use Rattle.gr_model.specs.declared.event.ItemId.{ItemId}
use Rattle.gr_model.specs.declared.event.Kind.{Kind}
use Rattle.gr_model.specs.declared.event.Kind.TheVariants.{End}
use Rattle.gr_model.specs.Prelude.{is_release, is_barrier, is_end, Streams, ArePrefixes, is_of, places_from, trace_of}
use Rattle.gr_lanes.specs.Remembered.{Remembered}

-- how many events an item has, the places of its releases and its barriers among them, and the records of these
pub record Index : Type 0 where
  pub count : ℕ
  pub releases : List ℕ
  pub barriers : List ℕ
  pub released : List Event
  pub arrived : List Event

-- each place is at least as great as those before it
abbrev pub AreRising : List ℕ → Type 0
AreRising places = (i j : ℕ) → i ≤ j → j < length places → slice_index places i ≤ slice_index places j

-- the index of an item of a group that has this list
abbrev pub index_of : List Event → ℕ → Index
index_of list item = record {
  count = length (filter (is_of item) list);
  releases = places_from is_release 0 (filter (is_of item) list);
  barriers = places_from is_barrier 0 (filter (is_of item) list);
  released = filter is_release (filter (is_of item) list);
  arrived = filter is_barrier (filter (is_of item) list);
}

-- the list with one more, if so told
abbrev pub with_if : {X : Type 0} → Bool → List X → X → List X
with_if told xs x = if told then xs ++ x ∷ [] else xs

-- the index with one event more, which is a release or a barrier if so told
abbrev pub with_event : Index → Event → Bool → Bool → Index
with_event i x release barrier = record {
  count = i.count + 1;
  releases = with_if release i.releases i.count;
  barriers = with_if barrier i.barriers i.count;
  released = with_if release i.released x;
  arrived = with_if barrier i.arrived x;
}

-- the index with a record of the item more: an end is no event
abbrev pub taking : Index → Event → Index
taking i x = if is_end x then i else with_event i x (is_release x) (is_barrier x)

-- the record of an item's k-th event that passes a test
abbrev pub record_of : Streams → (Event → Bool) → ItemId → ℕ → Option Event
record_of s test i k = slice_get (filter test (trace_of s i)) k

-- the number of the event with this index among an item's events of a list that pass a test; none if it is none of them
abbrev pub IsNumberAmong : (Event → Bool) → List Event → ℕ → ℕ → Option ℕ → Type 0
IsNumberAmong test list item index number = MatchOption number ((k : ℕ) → slice_get (places_from test 0 (filter (is_of item) list)) k ≢ Some index) (λ k. slice_get (places_from test 0 (filter (is_of item) list)) k ≡ Some index)

-- what was taken of a group of so many items, how many of its first instances are forgotten, and which of these are divergent
pub record GroupList : Type 0 where
  pub size : ℕ
  pub list : List Event
  pub forgotten : ℕ
  pub decided : List Divergence

-- a group of so many items of which nothing was taken
abbrev pub empty : ℕ → GroupList
empty n = record { size = n; list = []; forgotten = 0; decided = [] }

-- the places of an item's barriers in its trace
abbrev pub barriers_of : List Event → ℕ → List ℕ
barriers_of list item = places_from is_barrier 0 (filter (is_of item) list)

-- where an item has a barrier of this number, its instance is not forgotten
abbrev pub IsKeptOf : ℕ → List Event → ℕ → ℕ → Type 0
IsKeptOf forgotten list item number = (p : ℕ) → slice_get (barriers_of list item) number ≡ Some p → forgotten ≤ number

-- where an item's event with this index is a barrier, its instance is not forgotten
abbrev pub IsIndexKeptOf : ℕ → List Event → ℕ → ℕ → Type 0
IsIndexKeptOf forgotten list item index = (k : ℕ) → slice_get (barriers_of list item) k ≡ Some index → forgotten ≤ k

-- what a kind of record says of its stream where it is an end: whether it was cut
abbrev pub end_of_kind : Kind → Option Bool
end_of_kind (End cut) = Some cut
end_of_kind _ = None

abbrev pub end_of : Event → Option Bool
end_of x = end_of_kind x.kind

-- what the last record of a list says
abbrev pub end_in : List Event → Option Bool
end_in [] = None
end_in (x ∷ []) = end_of x
end_in (x ∷ y ∷ xs) = end_in (y ∷ xs)

-- some record of a list is an end that says that its stream was cut
abbrev pub EndsCut : List Event → Type 0
EndsCut list = (p : ℕ) × (x : Event) × (slice_get list p ≡ Some x) × (x.kind ≡ End true)

-- what was taken of the groups of a shape
abbrev pub taken_of : List ℕ → List GroupList → Streams
taken_of sizes groups = record { sizes = sizes; lists = map (λ g. g.list) groups }

-- the same, how many instances of each group are forgotten, and which of these are divergent
abbrev pub remembered_of : List ℕ → List GroupList → Remembered
remembered_of sizes groups = record { streams = taken_of sizes groups; forgotten = map (λ g. g.forgotten) groups; decided = map (λ g. g.decided) groups }

-- the groups are those of the shape, and each has a list that it may have
pub record AreGroups (sizes : List ℕ) (groups : List GroupList) : Type 0 where
  pub same : map (λ g. g.size) groups ≡ sizes
  pub prefixes : ArePrefixes (taken_of sizes groups)
