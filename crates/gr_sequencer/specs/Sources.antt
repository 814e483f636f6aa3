-- What an event learns from the releases that it names.
-- Source: docs/MODEL.md, "Clocks".
use Rattle.std.specs.Prelude.{◌≡◌, ◌≢◌, ◌↔◌, ◌<◌, All, List, [], Option, None, Some}
use Rattle.gr_sequencer.specs.Types.{EventId, Name, Space}
use Rattle.gr_model.specs.Prelude.{memory_of, Sees, IsInclusive, MatchesBy, Streams, word_at}
use Rattle.gr_clocks.specs.Counts.{greatest_count}
use Rattle.gr_clocks.specs.ItemClocks.{ReleaseClock, clocks_left}
use Rattle.gr_closure.specs.Accesses.{CountsJust}
use Rattle.gr_closure.specs.Knowledge.{Learns}

-- in a memory, e learns of d from the release of this name
pub record LearnsBy (s : Streams) (m : Space) (e : EventId) (n : Name) (d : EventId) : Type 0 where
  pub release : EventId
  pub by : MatchesBy s n e release
  pub inclusive : IsInclusive s m release e
  pub seen : Sees s m release d

-- the event learns nothing from the release of this name
abbrev pub LearnsNothing : Streams → EventId → Name → Type 0
LearnsNothing s e n = (m : Space) (d : EventId) → ¬ LearnsBy s m e n d

-- what an event learns from the release of this name: the release has the event's word, its clock counts exactly what is learned in the
-- word's memory, and nothing is learned in the other memory
pub record IsSource (s : Streams) (e : EventId) (n : Name) (source : ReleaseClock) : Type 0 where
  pub word : word_at s e ≡ Some source.word
  pub counts : CountsJust source.clock (LearnsBy s (memory_of source.word) e n)
  pub others : (m : Space) (d : EventId) → m ≢ memory_of source.word → ¬ LearnsBy s m e n d

-- what an event learns from the releases that it matches: all have the event's word, and in each memory they count together exactly what is
-- learned
pub record AreSources (s : Streams) (e : EventId) (sources : List ReleaseClock) : Type 0 where
  pub words : All (λ l. word_at s e ≡ Some l.word) sources
  pub counts : (m : Space) (d : EventId) → (d.index < greatest_count (clocks_left m sources) d.at) ↔ Learns s m e d

-- the sources that there are
abbrev pub sources_in : Option (List ReleaseClock) → List ReleaseClock
sources_in None = []
sources_in (Some sources) = sources
