-- Which releases an acquire names, and which releases it matches.
-- Source: OpenCL 2.0 specification, section 3.3 (memory model), "synchronizes-with". That the producer writes the names is this project's own rule (docs/MODEL.md, "Names of releases").
use Rattle.std.specs.Prelude.{◌≡◌, ◌≢◌, ℕ, List, [], Option, Some, None, Contains}
use Rattle.gr_model.specs.Types.{EventId, Event, Name}
use Rattle.gr_model.specs.declared.report.AcquireCause.{AcquireCause}
use Rattle.gr_model.specs.declared.report.AcquireCause.TheVariants.{Absent, OtherWord, Behind}
use Rattle.gr_model.specs.Access.{is_release}
use Rattle.gr_model.specs.Streams.{Streams, event_at, word_at, place_of}

-- the names that a record has, if there is one
abbrev pub names_of : Option Event → List Name
names_of None = []
names_of (Some x) = x.names

-- the names that an event has
abbrev pub names_at : Streams → EventId → List Name
names_at s e = names_of (event_at s e)

-- an event names a release
abbrev pub HasName : Streams → EventId → Name → Type 0
HasName s f n = Contains (names_at s f) n

-- the place of the named release in its item's trace: the item's releases are counted from 0
abbrev pub release_place : Streams → Name → Option ℕ
release_place s n = place_of s is_release n.at n.release

-- e is the release of this name, f has the name, and both have the same word
pub record MatchesBy (s : Streams) (name : Name) (f e : EventId) : Type 0 where
  pub named : HasName s f name
  pub item : e.at ≡ name.at
  pub place : release_place s name ≡ Some e.index
  pub word : word_at s f ≡ word_at s e

-- f matches e: one of f's names is that of the release e, and both have the same word
pub record Matches (s : Streams) (f e : EventId) : Type 0 where
  pub name : Name
  pub by : MatchesBy s name f e

-- the release of each of f's names is there, with f's word
abbrev pub HasItsReleases : Streams → EventId → Type 0
HasItsReleases s f = (n : Name) → HasName s f n → (e : EventId) × MatchesBy s n f e

-- ---- why an acquire is unmatched

-- there is no release of this name
abbrev pub IsAbsent : Streams → Name → Type 0
IsAbsent s n = release_place s n ≡ None

-- the release of this name is there, with another word than f, or with the same
abbrev pub IsOfOtherWord : Streams → EventId → Name → Type 0
IsOfOtherWord s f n = (k : ℕ) × (release_place s n ≡ Some k) × (word_at s (record { at = n.at; index = k }) ≢ word_at s f)

abbrev pub IsOfItsWord : Streams → EventId → Name → Type 0
IsOfItsWord s f n = (k : ℕ) × (release_place s n ≡ Some k) × (word_at s (record { at = n.at; index = k }) ≡ word_at s f)

-- the cause for which an acquire that is not grounded is unmatched: one of its releases is absent, else one has another word, else all are there with its word (so one of them is not grounded)
abbrev pub HasAcquireCause : Streams → EventId → AcquireCause → Type 0
HasAcquireCause s f Absent = (n : Name) × HasName s f n × IsAbsent s n
HasAcquireCause s f OtherWord = ((n : Name) → HasName s f n → ¬ IsAbsent s n) × ((n : Name) × HasName s f n × IsOfOtherWord s f n)
HasAcquireCause s f Behind = (n : Name) → HasName s f n → IsOfItsWord s f n
