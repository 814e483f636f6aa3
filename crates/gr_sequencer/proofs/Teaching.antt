-- What an event learns from the releases that it names.
use mathlib.Core.List.{map-map}
use Rattle.gr_model.proofs.Common.{◌≡◌, ◌≢◌, ◌⊎◌, ◌↔◌, ℕ, ◌+◌, ◌<◌, ◌≤◌, All, Contains, List, [], ◌∷◌, ◌++◌, length, get_or, map, take, Some, IsTrue, refl, ◌∙◌, ⊎_elim, suc, arith, All-push, Contains-append_left, Contains-push, Contains-push_cases, length-append, take-suc}
use Rattle.gr_sequencer.specs.Types.{Event, EventId, Name, Space}
use Rattle.gr_model.specs.Prelude.{inclusive, is_release, memory_of, IsInclusive, IsIn, MatchesBy, release_place, Streams, event_at, word_at, for_release}
use Rattle.gr_model.proofs.Places.{places_from-there}
use Rattle.gr_model.proofs.Cuts.{same_event}
use Rattle.gr_steps.specs.Steps.{IsReady}
use Rattle.gr_steps.proofs.EventRecords.{one_release}
use Rattle.gr_clocks.specs.Counts.{greatest_count}
use Rattle.gr_clocks.specs.ItemClocks.{ReleaseClock, AreOfOneWord, clocks_left}
use Rattle.gr_clocks.proofs.ReleaseLemmas.{left_elsewhere, left_here}
use Rattle.gr_sequencer.specs.Known.{IsSnapshotOf}
use Rattle.gr_sequencer.specs.Sources.{AreSources, IsSource, LearnsNothing, LearnsBy}
use Rattle.gr_sequencer.proofs.SeenCounts.{against, below_greater}

module _ (s : Streams) (order : List EventId) (e r : EventId) (x given : Event) (n : Name) (event : event_at s e ≡ Some x) (named : Contains x.names n) (item : r.at ≡ n.at) (place : release_place s n ≡ Some r.index) (there : event_at s r ≡ Some given) (ready : IsReady s order e) where
  matches_by : MatchesBy s n e r
  matches_by = grind (arith, event, named, ready.release n, same_event)

  pub release_handled : IsIn order r
  release_handled = ready.waits r (for_release (record { name = n; by = matches_by }))

  pub given_releases : IsTrue (is_release given)
  given_releases = grind (arith, places_from-there)

  pub source_of : IsTrue (inclusive given.kind r.at.group x.kind e.at.group) → (snapshots : ReleaseClock) → IsSnapshotOf s r snapshots → IsSource s e n snapshots
  source_of scopes snapshots is = record {
    word = matches_by.word ∙ is.word;
    counts = λ d. (
      λ below. record { release = r; by = matches_by; inclusive = within; seen = (is.counts d).0 below },
      λ l. (is.counts d).1 (rw (one_release s n e l.release r l.by matches_by) at l.seen),
    );
    others = λ m d other l. other (grind (arith, l.inclusive, one_release s n e l.release r l.by matches_by, is.word));
  }
    where
      within : IsInclusive s (memory_of snapshots.word) r e
      within = record { first = given; second = x; at_first = there; at_second = event; word = snapshots.word; has_word = is.word; memory = refl; scopes = scopes }

-- ---- the sources of several names

space_cases : (m n : Space) → (m ≡ n) ⊎ (m ≢ n)
space_cases m n = grind arith

-- in a memory, e learns of d from the release of one of these names
abbrev pub LearnsFrom : Streams → Space → EventId → List Name → EventId → Type 0
LearnsFrom s m e names d = (n : Name) × Contains names n × LearnsBy s m e n d

-- what an event learns from the releases of these names
pub record AreSourcesOf (s : Streams) (e : EventId) (names : List Name) (sources : List ReleaseClock) : Type 0 where
  pub few : length sources ≤ length names
  pub words : All (λ l. word_at s e ≡ Some l.word) sources
  pub counts : (m : Space) (d : EventId) → (d.index < greatest_count (clocks_left m sources) d.at) ↔ LearnsFrom s m e names d

module _ (s : Streams) (e : EventId) where
  pub sources_none : AreSourcesOf s e [] []
  sources_none = grind arith

  module _ (names : List Name) (n : Name) where
    longer : (m : Space) (d : EventId) → LearnsFrom s m e (names ++ n ∷ []) d ↔ (LearnsFrom s m e names d ⊎ LearnsBy s m e n d)
    longer m d = (
      λ l. grind (arith, Contains-push_cases names n l.0 l.1),
      ⊎_elim (λ l. (l.0, Contains-append_left names (n ∷ []) l.0 l.1, l.2)) (λ l. (n, Contains-push names n, l)),
    )

    module _ (sources : List ReleaseClock) (are : AreSourcesOf s e names sources) where
      -- a name from whose release nothing is learned
      pub sources_same : LearnsNothing s e n → AreSourcesOf s e (names ++ n ∷ []) sources
      sources_same none = record {
        few = grind (arith, length-append names (n ∷ []), are.few);
        words = are.words;
        counts = λ m d. against (grind (arith, are.counts m d, none m d)) (longer m d);
      }

      -- a name from whose release something is
      pub sources_more : (l : ReleaseClock) → IsSource s e n l → AreSourcesOf s e (names ++ n ∷ []) (sources ++ l ∷ [])
      sources_more l is = record {
        few = grind (arith, length-append names (n ∷ []), length-append sources (l ∷ []), are.few);
        words = All-push (λ r. word_at s e ≡ Some r.word) sources l are.words is.word;
        counts = λ m d. against (⊎_elim (in_its_memory m d) (in_another m d) (space_cases m (memory_of l.word))) (longer m d);
      }
        where
          all : Space → EventId → ℕ
          all m d = greatest_count (clocks_left m (sources ++ l ∷ [])) d.at

          in_its_memory : (m : Space) (d : EventId) → m ≡ memory_of l.word → (d.index < all m d) ↔ (LearnsFrom s m e names d ⊎ LearnsBy s m e n d)
          in_its_memory m d same = below_greater d.index _ _ _ (left_here m sources l d.at same) (are.counts m d) (rw same (is.counts d))

          in_another : (m : Space) (d : EventId) → m ≢ memory_of l.word → (d.index < all m d) ↔ (LearnsFrom s m e names d ⊎ LearnsBy s m e n d)
          in_another m d other = grind (arith, left_elsewhere m sources l d.at other, are.counts m d, is.others m d other)

  -- all names
  pub sources_all : (x : Event) → event_at s e ≡ Some x → (sources : List ReleaseClock) → AreSourcesOf s e x.names sources → AreSources s e sources
  sources_all x event sources are = grind arith

  -- they are all on the event's word
  pub of_one_word : (sources : List ReleaseClock) → All (λ l. word_at s e ≡ Some l.word) sources → AreOfOneWord sources
  of_one_word [] words = tt
  of_one_word (l ∷ sources) words = λ k d below. grind (arith, words 0 l, words (suc k) d)

-- the names up to the next one
pub next_names : (names read : List Name) (p : ℕ) (d : Name) → read ≡ names → p < length read → take (p + 1) names ≡ take p names ++ get_or read p d ∷ []
next_names names read p d same below = grind (arith, take-suc)

-- the clocks of releases are those of all references to them
pub clocks_referred : {X : Type 0} (release : X → ReleaseClock) (xs : List X) (sources : List ReleaseClock) → map release xs ≡ sources → map (λ x. (release x).clock) xs ≡ map (λ (l : ReleaseClock). l.clock) sources
clocks_referred release xs sources same = rw (← same, map-map)
