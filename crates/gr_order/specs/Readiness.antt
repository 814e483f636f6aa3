-- What decides whether an item's next event may be handled.
use Rattle.std.specs.Prelude.{◌≡◌, ℕ, ◌<◌, ◌⊎◌, All, Option, None, Some}
use Rattle.gr_order.specs.Types.{Event, EventId, Name}
use Rattle.gr_model.specs.Prelude.{event_word, IsDivergent, StandsIn, arrivals, is_barrier, Mark, release_place, Streams, place_of, size_of, word_at}
use Rattle.gr_clocks.specs.Counts.{Counts, count_of}

-- ---- instances

-- an item that came to an instance did with this mark
abbrev pub CameAlike : Streams → ℕ → ℕ → Option Mark → ℕ → Type 0
CameAlike s g k mine i = (arrivals s g k i ≡ mine) ⊎ (arrivals s g k i ≡ None)

-- an item's next event is its barrier with this number, and it came with this mark
pub record StandsNext (s : Streams) (frontier : Counts) (g k : ℕ) (mine : Option Mark) (i : ℕ) : Type 0 where
  pub place : place_of s is_barrier (record { group = g; item = i }) k ≡ Some (count_of frontier (record { group = g; item = i }))
  pub mark : arrivals s g k i ≡ mine

-- the next event of each item of the group is its barrier of the instance, all with one mark
pub record IsNextInstance (s : Streams) (frontier : Counts) (g k : ℕ) : Type 0 where
  pub mark : Mark
  pub some : 0 < size_of s g
  pub each : (i : ℕ) → i < size_of s g → StandsNext s frontier g k (Some mark) i

-- each instance to which an event belongs is divergent
abbrev pub MayPass : Streams → EventId → Type 0
MayPass s e = (g k : ℕ) → StandsIn s e g k → IsDivergent s g k

-- ---- releases

-- the release of this name was handled, and has the word of the event that has the name
pub record IsReleased (s : Streams) (frontier : Counts) (group : ℕ) (x : Event) (n : Name) : Type 0 where
  pub release : EventId
  pub item : release.at ≡ n.at
  pub place : release_place s n ≡ Some release.index
  pub word : event_word group x ≡ word_at s release
  pub handled : release.index < count_of frontier release.at

-- the release of each name of the event was handled, and has its word
abbrev pub AreReleased : Streams → Counts → ℕ → Event → Type 0
AreReleased s frontier group x = All (IsReleased s frontier group x) x.names
