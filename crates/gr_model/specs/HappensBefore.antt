-- What happens before what: one relation for each memory, the closure of its base pairs.
-- Source: OpenCL 2.0 specification, section 3.3 (memory model): "sequenced-before", "synchronizes-with", "global-happens-before" and "local-happens-before", "inclusive scope"; `work_group_barrier` for barriers.
use Rattle.std.specs.Prelude.{◌≡◌, ◌<◌, Some, IsTrue}
use Rattle.gr_model.specs.Types.{Space, EventId, Word, Event}
use Rattle.gr_model.specs.Access.{memory_of, inclusive}
use Rattle.gr_model.specs.Instances.{Mark, flags}
use Rattle.gr_model.specs.Streams.{Streams, event_at, IsEvent, word_at}
use Rattle.gr_model.specs.Names.{Matches}
use Rattle.gr_model.specs.Barriers.{Together}

-- two events, of which the first accesses a word of this memory, both atomic with inclusive scope
pub record IsInclusive (s : Streams) (m : Space) (e f : EventId) : Type 0 where
  pub first : Event
  pub second : Event
  pub at_first : event_at s e ≡ Some first
  pub at_second : event_at s f ≡ Some second
  pub word : Word
  pub has_word : word_at s e ≡ Some word
  pub memory : memory_of word ≡ m
  pub scopes : IsTrue (inclusive first.kind e.at.group second.kind f.at.group)

-- what orders two events of a memory by itself
pub data BasePair (s : Streams) (m : Space) (e f : EventId) : Type 0 where
  -- f is later in e's item
  sequenced : e.at ≡ f.at → e.index < f.index → IsEvent s f → BasePair s m e f
  -- f matches the release e, on a word of this memory, with inclusive scope
  synchronized : Matches s f e → IsInclusive s m e f → BasePair s m e f
  -- f comes after a barrier b in its item, and e and b are in one convergent instance that flags this memory
  behind_barrier : (a : Mark) (b : EventId) → IsTrue (flags a m) → Together s a e b → b.at ≡ f.at → b.index < f.index → IsEvent s f → BasePair s m e f

-- a non-empty list of base pairs leads from e to f, each ending where the next starts
pub data HappensBefore (s : Streams) (m : Space) (e : EventId) : EventId → Type 0 where
  by_pair : {f : EventId} → BasePair s m e f → HappensBefore s m e f
  through : {f : EventId} {g : EventId} → HappensBefore s m e f → BasePair s m f g → HappensBefore s m e g
