-- What is kept of a group's items: a lane for each item, and for each instance that is not forgotten what the first barrier said that came to it.
use Rattle.std.specs.Prelude.{IsTrue, ◌≡◌, ℕ, ◌<◌, ◌≤◌, List, [], ◌∷◌, ◌++◌, Bool, true, false, not, ◌||◌, ◌&&◌, ◌==◌, ◌⊎◌, nat_lt, Option, Some, None, drop, filter, length, map, replicate, take, slice_index_or, ◌+◌, ◌-◌, if◌then◌else◌}
use Rattle.gr_model.specs.declared.event.Event.{Event}
use Rattle.gr_lanes.specs.declared.bare.Bare.{Bare}
use Rattle.gr_model.specs.Prelude.{is_barrier, is_release, IsPrefix, Streams, is_complete, is_of, list_of, place_of, places_from, size_of}
use Rattle.gr_lanes.specs.Indices.{Index, barriers_of, end_in, index_of, record_of, with_event}

-- what a record says, without its item and the releases that it names
abbrev pub bare_of : Event → Bare
bare_of x = record { kind = x.kind; space = x.space; word = x.word }

-- the record that says this of an item, and names no releases
abbrev pub of_item : ℕ → Bare → Event
of_item i b = record { item = i; kind = b.kind; space = b.space; word = b.word; names = [] }

-- what is kept of an item: its index, in which the places and the records of barriers exist only in proofs; the places of those
-- barriers whose instances are not forgotten; how many of its first barriers are forgotten or said the same as the first of their
-- instance; and what the barriers after those said
pub record Kept : Type 0 where
  pub index : Index
  pub barriers : List ℕ
  pub alike : ℕ
  pub apart : List Bare

-- an item without events
abbrev pub nothing_kept : Kept
nothing_kept = record { index = record { count = 0; releases = []; barriers = []; released = []; arrived = [] }; barriers = []; alike = 0; apart = [] }

-- an item's lane with one more event, which is no barrier, and a release if the flag says so
abbrev pub kept_with : Kept → Event → Bool → Kept
kept_with k x release = record { index = with_event k.index x release false; barriers = k.barriers; alike = k.alike; apart = k.apart }

-- an item's lane with one more barrier, which said the same as the first of its instance if so told, and otherwise something else
abbrev pub barrier_more : Kept → Event → Bool → Kept
barrier_more k x told = record {
  index = with_event k.index x false true;
  barriers = k.barriers ++ k.index.count ∷ [];
  alike = if told then k.alike + 1 else k.alike;
  apart = if told then k.apart else k.apart ++ bare_of x ∷ [];
}

-- an item's lane where this many instances were forgotten, and now one more is
abbrev pub forgetting_one : ℕ → Kept → Kept
forgetting_one forgotten k = record {
  index = k.index;
  barriers = drop 1 k.barriers;
  alike = if k.alike == forgotten then k.alike + 1 else k.alike;
  apart = if k.alike == forgotten then drop 1 k.apart else k.apart;
}

-- a lane keeps an item's barriers without the forgotten ones, where the first barriers of the later instances said this
pub record IsLane (forgotten : ℕ) (firsts : List Bare) (i : ℕ) (k : Kept) : Type 0 where
  pub places : k.barriers ≡ drop forgotten k.index.barriers
  pub saying : drop forgotten k.index.arrived ≡ map (of_item i) (take (k.alike - forgotten) firsts ++ k.apart)
  pub records : length k.index.arrived ≡ length k.index.barriers
  pub passed : forgotten ≤ length k.index.barriers
  pub least : forgotten ≤ k.alike
  pub within : k.alike - forgotten ≤ length firsts
  pub few : length k.index.barriers ≤ k.index.count

-- a lane that says no more than how many barriers the item has
pub record HasNothing (k : Kept) : Type 0 where
  pub releases : k.index.releases ≡ []
  pub barriers : k.barriers ≡ []

-- whether a lane's barrier with a number that is not forgotten said the same as the first of its instance, or may still come
abbrev pub is_as_first : ℕ → Bool → Kept → Bool
is_as_first n ended k = nat_lt n k.alike || (not ended && not (nat_lt (n - k.alike) (length k.apart)))

-- an item came to an instance with this, or has not come and still may
abbrev pub CameWith : Option Event → Option ℕ → Bool → ℕ → Bare → Type 0
CameWith came place ended i b = (came ≡ Some (of_item i b)) ⊎ ((ended ≡ false) × (place ≡ None))

-- all items of a group that came to an instance said the same, and all came where the group has ended
abbrev pub NoneDiffers : Streams → ℕ → ℕ → Type 0
NoneDiffers s g n = (b : Bare) × ((i : ℕ) → i < size_of s g → CameWith (record_of s is_barrier (record { group = g; item = i }) n) (place_of s is_barrier (record { group = g; item = i }) n) (is_complete (list_of s g)) i b)

-- an item's lane comes to have this index, and each of its barriers an instance that has a first
pub record Arrives (forgotten : ℕ) (firsts firsts' : List Bare) (i : ℕ) (index : Index) (new : Kept) : Type 0 where
  pub more : List Bare
  pub grown : firsts' ≡ firsts ++ more
  pub lane : IsLane forgotten firsts' i new
  pub index_is : new.index ≡ index

-- this many lanes of items without events, where there were fewer lanes
abbrev pub begun : ℕ → List Kept → List Kept
begun n ks = if nat_lt (length ks) n then replicate n nothing_kept else ks

-- the lane of an item of a group that has this list
pub record IsLaneOf (forgotten : ℕ) (firsts : List Bare) (list : List Event) (i : ℕ) (k : Kept) : Type 0 where
  pub index : k.index ≡ index_of list i
  pub lane : IsLane forgotten firsts i k
  pub few : length list < 4_294_967_296

-- an item that has no lane: it has no releases, and all its barriers are forgotten
pub record IsGone (size forgotten : ℕ) (list : List Event) (i : ℕ) : Type 0 where
  pub releases : places_from is_release 0 (filter (is_of i) list) ≡ []
  pub released : filter is_release (filter (is_of i) list) ≡ []
  pub barriers : length (barriers_of list i) ≡ (if nat_lt i size then forgotten else 0)

-- what is kept of a group of so many items: their lanes, how many records were taken, and what its end says once it was taken. The last
-- lanes may have gone where no more is taken of the group, and need not have come where nothing was
pub record IsKept (size forgotten : ℕ) (firsts : List Bare) (ks : List Kept) (list : List Event) (taken : ℕ) (end : Option Bool) : Type 0 where
  pub prefix : IsPrefix size list
  pub few : length ks ≤ size
  pub each : (i : ℕ) → i < length ks → IsLaneOf forgotten firsts list i (slice_index_or ks i nothing_kept)
  pub gone : (i : ℕ) → length ks ≤ i → IsGone size forgotten list i
  pub whole : ¬ IsTrue (is_complete list) → (length ks ≡ size) ⊎ ((list ≡ []) × (forgotten ≡ 0))
  pub count : taken ≡ length list
  pub ending : end ≡ end_in list
