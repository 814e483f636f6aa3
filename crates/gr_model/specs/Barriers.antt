-- The barrier instances of streams: instance k of a group is the k-th barriers of its items, k from 0.
-- Source: docs/MODEL.md, "Barriers".
use Rattle.std.specs.Prelude.{◌≡◌, ℕ, ◌<◌, Bool, Option, Some, None, slice_get, filter_map, is_some}
use Rattle.gr_model.specs.Types.{EventId, Event, Kind, Read, Write, Load, Store, Rmw, Barrier, End}
use Rattle.gr_model.specs.Instances.{Mark, Arrivals, IsConvergentOf, IsDivergentOf}
use Rattle.gr_model.specs.Streams.{Streams, list_of, size_of, trace_of, place_of, is_complete}

-- the mark of a barrier; the record's word is its site
abbrev pub mark_of_kind : Kind → ℕ → Option Mark
mark_of_kind Read site = None
mark_of_kind Write site = None
mark_of_kind (Load scope order) site = None
mark_of_kind (Store scope order) site = None
mark_of_kind (Rmw scope order) site = None
mark_of_kind (Barrier global local) site = Some (record { site = site; global = global; local = local })
mark_of_kind (End cut) site = None

abbrev pub mark_of : Event → Option Mark
mark_of e = mark_of_kind e.kind e.word

abbrev pub is_barrier : Event → Bool
is_barrier e = is_some (mark_of e)

-- what each item of a group brings to its instance k: the mark of its k-th barrier
abbrev pub arrivals : Streams → ℕ → ℕ → Arrivals
arrivals s g k i = slice_get (filter_map mark_of (trace_of s (record { group = g; item = i }))) k

abbrev pub IsConvergent : Streams → ℕ → ℕ → Mark → Type 0
IsConvergent s g k a = IsConvergentOf (size_of s g) (arrivals s g k) a

abbrev pub IsDivergent : Streams → ℕ → ℕ → Type 0
IsDivergent s g k = IsDivergentOf (is_complete (list_of s g)) (size_of s g) (arrivals s g k)

-- e is a barrier of an item of the group, one of its instance k
pub record StandsIn (s : Streams) (e : EventId) (g k : ℕ) : Type 0 where
  pub group : e.at.group ≡ g
  pub item : e.at.item < size_of s g
  pub place : place_of s is_barrier e.at k ≡ Some e.index

-- e and b are in one convergent instance, which has this mark
pub record Together (s : Streams) (a : Mark) (e b : EventId) : Type 0 where
  pub group : ℕ
  pub instance : ℕ
  pub convergent : IsConvergent s group instance a
  pub first : StandsIn s e group instance
  pub second : StandsIn s b group instance
