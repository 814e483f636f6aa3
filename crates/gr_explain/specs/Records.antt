-- Where the records of each item are in the list of its group.
-- Source: docs/MODEL.md, "Records".
use Rattle.std.specs.Prelude.{◌≡◌, ℕ, ◌<◌, List, [], length, slice_index_or}
use Rattle.gr_model.specs.declared.event.Event.{Event}
use Rattle.gr_model.specs.Prelude.{AreAccepted, Streams, is_of, list_of, places_from, size_of}

-- for each of so many items, the places of its records, ascending
pub record IsIndexOf (items : ℕ) (list : List Event) (index : List (List ℕ)) : Type 0 where
  pub count : length index ≡ items
  pub each : (i : ℕ) → i < items → slice_index_or index i [] ≡ places_from (is_of i) 0 list

-- this is so of each of the first groups of a launch
pub record AreFirstIndicesOf (bound : ℕ) (s : Streams) (indices : List (List (List ℕ))) : Type 0 where
  pub count : length indices ≡ bound
  pub each : (g : ℕ) → g < bound → IsIndexOf (size_of s g) (list_of s g) (slice_index_or indices g [])

-- and of all
pub record AreIndicesOf (s : Streams) (indices : List (List (List ℕ))) : Type 0 where
  pub accepted : AreAccepted s
  pub all : AreFirstIndicesOf (length s.sizes) s indices
