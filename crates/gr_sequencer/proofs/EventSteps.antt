-- What is known where an event is handled.
use Rattle.gr_order.proofs.StateLemmas.{item_cases}
use Rattle.gr_model.proofs.Common.{◌≡◌, ◌≢◌, ◌↔◌, ℕ, ◌+◌, ◌<◌, max, All, List, [], ◌∷◌, ◌++◌, Some, IsTrue, map, refl, ◌∙◌, inl, ⊎_elim, arith, map-id}
use Rattle.gr_sequencer.specs.Types.{Event, EventId, ItemId, Space, Global, LARGEST_COUNT}
use Rattle.gr_model.specs.Prelude.{is_release, memory_of, Sees, IsIn, HasItem, Streams, event_at, for_release}
use Rattle.gr_steps.specs.Steps.{Handles}
use Rattle.gr_steps.proofs.EventRecords.{group_of_event, item_of_event}
use Rattle.gr_clocks.specs.Counts.{Counts, IsJoinOfAll, count_of, greatest_count, tick_at}
use Rattle.gr_clocks.specs.ItemClocks.{Acquires, AreSpent, IsSpent, ItemClocks, ReleaseClock, Ticks, clock_in, clocks_left}
use Rattle.gr_clocks.proofs.JoinLemmas.{joined_none}
use Rattle.gr_clocks.proofs.ReleaseLemmas.{acquires_none, left_all, left_counted}
use Rattle.gr_closure.specs.Accesses.{CountsJust}
use Rattle.gr_closure.specs.Knowledge.{Knows}
use Rattle.gr_closure.proofs.EventKnowledge.{handled_cases, handled_knows, handled_sees, others_know_after_handle}
use Rattle.gr_closure.proofs.HandledKnowledge.{known_handled, own_known, seen_handled}
use Rattle.gr_closure.proofs.NextInItem.{IsNextInItem, ready_event_is_next}
use Rattle.gr_sequencer.specs.Known.{AreSnapshots, CountWhatIsKnown, KnowsOrLearns, IsSnapshotBy, IsNext, Known, Snapshots, snapshot_at}
use Rattle.gr_sequencer.specs.Sources.{AreSources}
use Rattle.gr_sequencer.proofs.SeenCounts.{against, below_greater, index_counts, own_count, seen_count}

module _ (s : Streams) (order : List EventId) (known : Known) (e : EventId) (next : IsNext s order known e) where
  abbrev pub own_clock : Space → Counts
  own_clock m = clock_in known.clocks m e.at

  pub has_item : HasItem s.sizes e.at
  has_item = grind (arith, group_of_event, item_of_event)

  pub has_clock : HasItem known.clocks.sizes e.at
  has_clock = grind (arith, has_item, next.follows.clocks.shape)

  is_next : IsNextInItem order e
  is_next = ready_event_is_next s order next.lawful e next.ready

  handles : Handles s order e (order ++ e ∷ [])
  handles = record { ready = next.ready; order = refl }

  counts : (m : Space) → CountsJust (own_clock m) (Knows s m order e.at)
  counts m = next.follows.clocks.counts m e.at has_item

  known_or_learned_in : (m : Space) (d : EventId) → KnowsOrLearns s order m e d → IsIn order d
  known_or_learned_in m d h =
      ⊎_elim
      (known_handled s m order next.lawful e.at d)
      (λ l. seen_handled s m order next.lawful l.release d (next.ready.waits l.release (for_release l.matches)) l.seen)
      h

  own_known_or_learned : (m : Space) (d : EventId) → d.at ≡ e.at → IsIn order d → KnowsOrLearns s order m e d
  own_known_or_learned m d item h = inl (own_known s m order e.at d item h)

  -- ---- there is room

  pub unspent : IsSpent known.clocks e.at → ⊥
  unspent (m, full) =
      let own = own_count s m order e is_next (Knows s m order e.at) (known_handled s m order next.lawful e.at) (own_known s m order e.at) (count_of (own_clock m)) (counts m) in
      omega (arith, index_counts s next.prefixes e next.ready.event)

  -- ---- what its item knew, or the event learns

  -- a count of just that
  module _ (m : Space) (c : ItemId → ℕ) (just : (d : EventId) → (d.index < c d.at) ↔ KnowsOrLearns s order m e d) where
    just_own : c e.at ≡ e.index
    just_own = own_count s m order e is_next (KnowsOrLearns s order m e) (known_or_learned_in m) (own_known_or_learned m) c just

    pub known_or_learned_room : c e.at ≢ LARGEST_COUNT
    known_or_learned_room full = omega (arith, index_counts s next.prefixes e next.ready.event, just_own)

    pub known_or_learned_sees : (n : ItemId → ℕ) → ((j : ItemId) → n j ≡ c j + tick_at e.at j) → (d : EventId) → (d.index < n d.at) ↔ Sees s m e d
    known_or_learned_sees n tick = seen_count s m order e is_next (KnowsOrLearns s order m e) (known_or_learned_in m) (own_known_or_learned m) c just (handled_sees s m order (order ++ e ∷ []) e next.lawful handles) n tick

  -- the item's clock, joined with the sources, which are all on words of the memory
  pub known_or_learned_sources : (m : Space) (c joined : Counts) (sources : List ReleaseClock) → AreSources s e sources → c ≡ own_clock m → All (λ l. m ≡ memory_of l.word) sources → IsJoinOfAll c (map (λ (l : ReleaseClock). l.clock) sources) joined → CountsJust joined (KnowsOrLearns s order m e)
  known_or_learned_sources m c joined sources are same here join d =
      below_greater d.index (count_of (own_clock m) d.at) (greatest_count (clocks_left m sources) d.at) (count_of joined d.at)
      (cc (join.counts d.at, left_all (λ r. r) m sources here, map-id sources)) (counts m d) (are.counts m d)

  -- where there are none
  pub known_or_learned_alone : (m : Space) (c : Counts) → AreSources s e [] → c ≡ own_clock m → CountsJust c (KnowsOrLearns s order m e)
  known_or_learned_alone m c are same = known_or_learned_sources m c c [] are same (λ k d below. absurd (omega (arith, below))) (joined_none c)

  -- ---- what is known after it

  module _ (sources : List ReleaseClock) (are : AreSources s e sources) where
    -- what the item's clock and the sources count together in a memory
    abbrev joined : Space → ItemId → ℕ
    joined m j = max (count_of (own_clock m) j) (greatest_count (clocks_left m sources) j)

    joined_counts : (m : Space) (d : EventId) → (d.index < joined m d.at) ↔ KnowsOrLearns s order m e d
    joined_counts m d = below_greater d.index (count_of (own_clock m) d.at) (greatest_count (clocks_left m sources) d.at) (joined m d.at) refl (counts m d) (are.counts m d)

    pub sources_unspent : ¬ AreSpent sources e.at
    sources_unspent (k, l, below, at, full) =
        let m = memory_of l.word in
        omega (arith, left_counted sources e.at k l below at, just_own m (joined m) (joined_counts m), index_counts s next.prefixes e next.ready.event)

    -- its item's clock counts what it sees, and the others are as they were
    pub sources_true : (new : ItemClocks) → Acquires known.clocks e.at sources new → CountWhatIsKnown s (order ++ e ∷ []) new
    sources_true new acquires = record {
      shape = acquires.shape ∙ next.follows.clocks.shape;
      tables = λ m. (acquires.learns m).shape ∙ next.follows.clocks.tables m;
      counts = λ m i has d.
          let learns = acquires.learns m in
          let sees = known_or_learned_sees m (joined m) (joined_counts m) (count_of (clock_in new m e.at)) learns.item.counts d in
          let others = others_know_after_handle s m order (order ++ e ∷ []) e next.lawful handles i d in
          ⊎_elim
          (λ (same : i ≡ e.at). rw same (against sees (handled_knows s m order (order ++ e ∷ []) e next.lawful handles d)))
          (λ apart. rw (learns.others i apart) (against (next.follows.clocks.counts m i has d) (others apart)))
          (item_cases i e.at);
    }

  pub learns_nothing_true : (new : ItemClocks) → AreSources s e [] → Ticks known.clocks e.at new → CountWhatIsKnown s (order ++ e ∷ []) new
  learns_nothing_true new are ticks = sources_true [] are new (acquires_none known.clocks e.at [] new refl ticks)

  -- ---- what is left

  pub snapshots_longer : (snapshots : Snapshots) → ((r : EventId) → r ≢ e → snapshot_at snapshots r ≡ snapshot_at known.snapshots r) → ((x : Event) → event_at s e ≡ Some x → IsTrue (is_release x) → IsSnapshotBy s e (snapshot_at snapshots e)) → AreSnapshots s (order ++ e ∷ []) snapshots
  snapshots_longer snapshots others own r x h at releases =
      let cases = handled_cases s Global order (order ++ e ∷ []) e next.lawful handles r h in
      grind (arith, others r, next.ready.fresh, next.follows.snapshots r x, own x)
