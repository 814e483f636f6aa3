-- What is taken of a launch's streams: the records of each work-group, one after the other.
-- Source: docs/MODEL.md, "Streams and traces".
use Rattle.std.specs.Prelude.{◌≡◌, ℕ, ◌<◌, ◌≤◌, List, [], ◌∷◌, ◌++◌, length, map, slice_set, IsTrue, false}
use Rattle.gr_model.specs.declared.event.Event.{Event}
use Rattle.gr_model.specs.declared.event.EventId.{EventId}
use Rattle.gr_model.specs.Prelude.{is_release, is_barrier, IsNamingOk, IsKindOk, is_end, Streams, list_of, size_of, trace_of, is_complete}
use Rattle.gr_lanes.specs.declared.seq_error.SeqError.{SeqError}
use Rattle.gr_lanes.specs.declared.seq_error.SeqError.TheVariants.{UnknownGroup, AfterEnd, UnknownItem, Memory}

-- groups of these sizes, before their first records
abbrev pub nothing_taken : List ℕ → Streams
nothing_taken sizes = record { sizes = sizes; lists = map (λ n. []) sizes }

-- one record more of a group
abbrev pub with_record : Streams → ℕ → Event → Streams
with_record s g x = record { sizes = s.sizes; lists = slice_set s.lists g (list_of s g ++ x ∷ []) }

-- the event that a group's record becomes when it is taken: the next of its item
abbrev pub next_of : Streams → ℕ → Event → EventId
next_of s g x = record { at = record { group = g; item = x.item }; index = length (trace_of s (record { group = g; item = x.item })) }

-- a mere access: an access that releases nothing and names nothing
pub record IsMereAccess (x : Event) : Type 0 where
  pub ends : is_end x ≡ false
  pub barrier : is_barrier x ≡ false
  pub release : is_release x ≡ false
  pub names : x.names ≡ []

-- a record that some group may have, whatever its item
abbrev pub IsEventButItem : Event → Type 0
IsEventButItem x = IsNamingOk x.kind x.names × IsKindOk x.kind x.item x.space x.word

-- a record of a group may be taken
pub record CanTake (s : Streams) (g : ℕ) (x : Event) : Type 0 where
  pub group : g < length s.sizes
  pub before_end : ¬ IsTrue (is_complete (list_of s g))
  pub item : x.item < size_of s g

-- why a record is not taken: the first cause that holds
abbrev pub IsTakeFault : Streams → ℕ → Event → SeqError → Type 0
IsTakeFault s g x UnknownGroup = length s.sizes ≤ g
IsTakeFault s g x (AfterEnd h) = (h ≡ g) × (g < length s.sizes) × IsTrue (is_complete (list_of s g))
IsTakeFault s g x UnknownItem = (g < length s.sizes) × ¬ IsTrue (is_complete (list_of s g)) × (size_of s g ≤ x.item)
IsTakeFault s g x Memory = CanTake s g x
