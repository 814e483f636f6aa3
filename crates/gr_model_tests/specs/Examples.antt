-- Small lists on which the definitions are tried, one for each rule that is easy to get wrong.
use Rattle.std.specs.Prelude.{ℕ, Bool, true, false, List, [], ◌∷◌}
use Rattle.gr_model.specs.declared.event.Space.{Space}
use Rattle.gr_model.specs.declared.event.Space.TheVariants.{Global, Local}
use Rattle.gr_model.specs.declared.event.Scope.TheVariants.{Group, Device}
use Rattle.gr_model.specs.declared.event.Order.TheVariants.{Acquire, Release, Both}
use Rattle.gr_model.specs.declared.event.Kind.{Kind}
use Rattle.gr_model.specs.declared.event.Kind.TheVariants.{Read, Write, Load, Store, Rmw, Barrier, End}
use Rattle.gr_model.specs.declared.event.Name.{Name}
use Rattle.gr_model.specs.declared.event.Event.{Event}
use Rattle.gr_model.specs.declared.event.EventId.{EventId}
use Rattle.gr_model.specs.Prelude.{Mark, Streams}

-- a record without names, one with some names and one with one, a barrier and an end
abbrev pub access : ℕ → Kind → Space → ℕ → Event
access item kind space word = record { item = item; kind = kind; space = space; word = word; names = [] }

abbrev pub acquire_of : ℕ → Kind → ℕ → List Name → Event
acquire_of item kind word names = record { item = item; kind = kind; space = Global; word = word; names = names }

abbrev pub acquire : ℕ → Kind → ℕ → Name → Event
acquire item kind word name = acquire_of item kind word (name ∷ [])

abbrev pub barrier : ℕ → Bool → Bool → ℕ → Event
barrier item global local site = access item (Barrier global local) Global site

abbrev pub the_end : Bool → Event
the_end cut = access 0 (End cut) Global 0

-- release number of an item of a group, and an event by group, item and index
abbrev pub release : ℕ → ℕ → ℕ → Name
release group item number = record { at = record { group = group; item = item }; release = number }

abbrev pub event : ℕ → ℕ → ℕ → EventId
event group item index = record { at = record { group = group; item = item }; index = index }

-- one item writes and releases, and an item of another group acquires and reads; the second stream was cut
abbrev pub handed_over : Streams
handed_over = record {
  sizes = 1 ∷ 1 ∷ [];
  lists =
      (access 0 Write Global 16 ∷ access 0 (Store Device Release) Global 20 ∷ the_end false ∷ [])
      ∷ (acquire 0 (Load Device Acquire) 20 (release 0 0 0) ∷ access 0 Read Global 16 ∷ the_end true ∷ []) ∷ [];
}

-- a read-modify-write that names itself
abbrev pub names_itself : Streams
names_itself = record { sizes = 1 ∷ []; lists = (acquire 0 (Rmw Device Both) 16 (release 0 0 0) ∷ the_end false ∷ []) ∷ [] }

-- two acquires, each of which names a release after the other
abbrev pub crossed : Streams
crossed = record {
  sizes = 1 ∷ 1 ∷ [];
  lists =
      (acquire 0 (Load Device Acquire) 20 (release 1 0 0) ∷ access 0 (Store Device Release) Global 24 ∷ the_end false ∷ [])
      ∷ (acquire 0 (Load Device Acquire) 24 (release 0 0 0) ∷ access 0 (Store Device Release) Global 20 ∷ the_end false ∷ []) ∷ [];
}

-- in one group an acquire at device scope names a release at work-group scope
abbrev pub scopes_differ : Streams
scopes_differ = record {
  sizes = 2 ∷ [];
  lists = (access 0 (Store Group Release) Global 20 ∷ acquire 1 (Load Device Acquire) 20 (release 0 0 0) ∷ the_end false ∷ []) ∷ [];
}

-- a release in local memory, then one in global memory; an acquire of another word names the second
abbrev pub two_releases : Streams
two_releases = record {
  sizes = 2 ∷ [];
  lists = (access 0 (Store Group Release) Local 4 ∷ access 0 (Store Device Release) Global 20 ∷ acquire 1 (Load Device Acquire) 24 (release 0 0 1) ∷ the_end false ∷ []) ∷ [];
}

-- in two groups an item each writes a word and releases; an item of a third group names both releases and reads both words
abbrev pub handed_by_two : Streams
handed_by_two = record {
  sizes = 1 ∷ 1 ∷ 1 ∷ [];
  lists =
      (access 0 Write Global 16 ∷ access 0 (Store Device Release) Global 20 ∷ the_end false ∷ [])
      ∷ (access 0 Write Global 17 ∷ access 0 (Rmw Device Both) Global 20 ∷ the_end false ∷ [])
      ∷ (acquire_of 0 (Load Device Acquire) 20 (release 0 0 0 ∷ release 1 0 0 ∷ []) ∷ access 0 Read Global 16 ∷ access 0 Read Global 17 ∷ the_end false ∷ []) ∷ [];
}

-- an acquire names a release of another word and one that is not there; the next names its word's release and that of the other word
abbrev pub half_there : Streams
half_there = record {
  sizes = 1 ∷ 1 ∷ 1 ∷ [];
  lists =
      (access 0 (Store Device Release) Global 24 ∷ access 0 (Store Device Release) Global 20 ∷ the_end false ∷ [])
      ∷ (acquire_of 0 (Load Device Acquire) 20 (release 0 0 0 ∷ release 0 0 2 ∷ []) ∷ the_end false ∷ [])
      ∷ (acquire_of 0 (Load Device Acquire) 20 (release 0 0 0 ∷ release 0 0 1 ∷ []) ∷ the_end false ∷ []) ∷ [];
}

-- two items at one barrier from different sites, then one of them at another barrier
abbrev pub mixed : Streams
mixed = record { sizes = 2 ∷ []; lists = (barrier 0 true true 1 ∷ barrier 1 true true 2 ∷ barrier 0 true true 1 ∷ the_end false ∷ []) ∷ [] }

-- one item of two has come to a barrier, and the stream goes on
abbrev pub waiting : Streams
waiting = record { sizes = 2 ∷ []; lists = (barrier 0 true true 1 ∷ []) ∷ [] }

-- a write, a barrier of both items that flags local memory alone, a read
abbrev pub met : Streams
met = record { sizes = 2 ∷ []; lists = (access 0 Write Local 4 ∷ barrier 0 false true 7 ∷ barrier 1 false true 7 ∷ access 1 Read Local 4 ∷ the_end false ∷ []) ∷ [] }

abbrev pub the_mark : Mark
the_mark = record { site = 7; global = false; local = true }

-- two groups, each of which writes its local word 4
abbrev pub local_words : Streams
local_words = record { sizes = 1 ∷ 1 ∷ []; lists = (access 0 Write Local 4 ∷ the_end false ∷ []) ∷ (access 0 Write Local 4 ∷ the_end false ∷ []) ∷ [] }
