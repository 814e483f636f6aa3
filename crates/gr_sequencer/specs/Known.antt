-- What the clocks of the items and the snapshots of the releases say of the handled events.
-- Source: docs/MODEL.md, "Clocks".
use Rattle.std.specs.Prelude.{◌≡◌, ◌⊎◌, ℕ, Bool, List, [], Option, Some, None, IsTrue, map, length}
use Rattle.std.specs.Map.{lookup}
use Rattle.gr_sequencer.specs.Types.{Space, ItemId, EventId, Event}
use Rattle.gr_model.specs.contracts.event.EventIdPartialEq.TheImpl as equality
use Rattle.gr_model.specs.Prelude.{is_release, memory_of, Sees, IsIn, IsLawful, HasItem, Streams, ArePrefixes, event_at, word_at}
use Rattle.gr_lanes.specs.Takes.{with_record}
use Rattle.gr_order.specs.Sequences.{Sequence}
use Rattle.gr_steps.specs.Steps.{IsReady}
use Rattle.gr_clocks.specs.ItemClocks.{ItemClocks, ReleaseClock, clock_in, clocks_in}
use Rattle.gr_closure.specs.Accesses.{CountsJust}
use Rattle.gr_closure.specs.Knowledge.{Knows, Learns}

-- the snapshots of releases, by the event
abbrev pub Snapshots : Type 0
Snapshots = List (EventId × ReleaseClock)

abbrev pub same_event : EventId → EventId → Bool
same_event e f = (equality.eq-value).it e f

abbrev pub snapshot_at : Snapshots → EventId → Option ReleaseClock
snapshot_at snapshots e = lookup (same_event e) snapshots

-- the clocks of the items, and the snapshots of the releases
pub record Known : Type 0 where
  pub clocks : ItemClocks
  pub snapshots : Snapshots

-- each item's clock counts exactly what the item knows along the order
pub record CountWhatIsKnown (s : Streams) (order : List EventId) (clocks : ItemClocks) : Type 0 where
  pub shape : clocks.sizes ≡ s.sizes
  pub tables : (m : Space) → map length (clocks_in clocks m) ≡ s.sizes
  pub counts : (m : Space) (i : ItemId) → HasItem s.sizes i → CountsJust (clock_in clocks m i) (Knows s m order i)

-- the snapshot of a release has its word, and counts exactly what is seen at the release in the word's memory
pub record IsSnapshotOf (s : Streams) (r : EventId) (snapshot : ReleaseClock) : Type 0 where
  pub word : word_at s r ≡ Some snapshot.word
  pub counts : CountsJust snapshot.clock (Sees s (memory_of snapshot.word) r)

abbrev pub IsSnapshotBy : Streams → EventId → Option ReleaseClock → Type 0
IsSnapshotBy s r None = ⊥
IsSnapshotBy s r (Some snapshot) = IsSnapshotOf s r snapshot

-- each release of the order has such a snapshot
abbrev pub AreSnapshots : Streams → List EventId → Snapshots → Type 0
AreSnapshots s order snapshots = (r : EventId) (x : Event) → IsIn order r → event_at s r ≡ Some x → IsTrue (is_release x) → IsSnapshotBy s r (snapshot_at snapshots r)

pub record IsKnown (s : Streams) (order : List EventId) (known : Known) : Type 0 where
  pub clocks : CountWhatIsKnown s order known.clocks
  pub snapshots : AreSnapshots s order known.snapshots

-- ---- the next event

-- an event may be handled after a lawful order of which this is known
pub record IsNext (s : Streams) (order : List EventId) (known : Known) (e : EventId) : Type 0 where
  pub prefixes : ArePrefixes s
  pub lawful : IsLawful s order
  pub follows : IsKnown s order known
  pub ready : IsReady s order e

-- once a record of a group is taken, its event may be handled next; it names nothing
pub record IsNextAtOnce (q : Sequence) (g : ℕ) (x : Event) (known : Known) (e : EventId) : Type 0 where
  pub next : IsNext (with_record q.taken g x) q.handled known e
  pub there : event_at (with_record q.taken g x) e ≡ Some x
  pub names : x.names ≡ []

-- d is known to the event's item, or the event learns of it
abbrev pub KnowsOrLearns : Streams → List EventId → Space → EventId → EventId → Type 0
KnowsOrLearns s order m e d = Knows s m order e.at d ⊎ Learns s m e d
