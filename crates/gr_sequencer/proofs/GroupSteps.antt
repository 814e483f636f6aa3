-- What is known where an instance meets.
use Rattle.gr_model.proofs.Common.{◌≡◌, ◌≢◌, ◌↔◌, ℕ, zero, suc, ◌+◌, ◌<◌, Bool, true, false, List, ◌++◌, map, length, refl, ◌∙◌, ⊎_elim, arith, cases_eq, slice_index}
use Rattle.gr_sequencer.specs.Types.{EventId, ItemId, Space, Global, LARGEST_COUNT}
use Rattle.gr_model.specs.Prelude.{StandsIn, Sees, Mark, flags, IsLawful, HasItem, ArePrefixes, Streams, size_of}
use Rattle.gr_steps.specs.Steps.{AreBarriers, IsMeeting, Meets}
use Rattle.gr_steps.proofs.BarrierPlaces.{barrier_of, barrier_there}
use Rattle.gr_steps.proofs.EventRecords.{group_of_event, item_of_event}
use Rattle.gr_clocks.specs.Counts.{count_of, tick_at}
use Rattle.gr_clocks.specs.ItemClocks.{IsGroupSpent, ItemClocks, MeetsClocks, clock_in, clocks_in, orders}
use Rattle.gr_clocks.specs.Tables.{JoinsGroup, MeetsGroup, clock_at, greatest, item_of}
use Rattle.gr_closure.specs.Accesses.{CountsJust}
use Rattle.gr_closure.specs.Knowledge.{Knows}
use Rattle.gr_closure.proofs.GroupKnowledge.{flagged_knows, met_cases, met_sees, others_know_after_meet, unflagged_knows}
use Rattle.gr_closure.proofs.NextInItem.{IsNextInItem, barrier_is_next}
use Rattle.gr_sequencer.specs.Known.{AreSnapshots, CountWhatIsKnown, Snapshots}
use Rattle.gr_sequencer.proofs.SeenCounts.{against, index_counts, own_count, seen_count}
use Rattle.gr_closure.proofs.HandledKnowledge.{known_handled, own_known}

-- the greatest of some numbers has what one of them has
below_greatest : (n : ℕ) (f : ℕ → ℕ) (x : ℕ) → (x < greatest n f) ↔ ((k : ℕ) × (k < n) × (x < f k))
below_greatest zero f x = grind arith
below_greatest (suc n) f x = grind (arith, below_greatest n f x)

module _ (s : Streams) (order : List EventId) (g k : ℕ) (clocks : ItemClocks) (prefixes : ArePrefixes s) (lawful : IsLawful s order) (are : CountWhatIsKnown s order clocks) (a : Mark) (meeting : IsMeeting s order g k a) where
  -- the barrier of each item of the group
  abbrev barrier : (i : ℕ) → i < size_of s g → EventId
  barrier i within = record { at = item_of g i; index = (barrier_of s g k a meeting.convergent i within).0 }

  stands : (i : ℕ) (within : i < size_of s g) → StandsIn s (barrier i within) g k
  stands i within = (barrier_of s g k a meeting.convergent i within).1

  has_item : (b : EventId) → StandsIn s b g k → HasItem s.sizes b.at
  has_item b h = grind (arith, barrier_there, group_of_event, item_of_event)

  is_next : (b : EventId) → StandsIn s b g k → IsNextInItem order b
  is_next b h = barrier_is_next s order lawful g k a meeting b h

  counts : (m : Space) (b : EventId) → StandsIn s b g k → CountsJust (clock_in clocks m b.at) (Knows s m order b.at)
  counts m b h = are.counts m b.at (has_item b h)

  own : (m : Space) (b : EventId) → StandsIn s b g k → count_of (clock_in clocks m b.at) b.at ≡ b.index
  own m b h = own_count s m order b (is_next b h) (Knows s m order b.at) (known_handled s m order lawful b.at) (own_known s m order b.at) (count_of (clock_in clocks m b.at)) (counts m b h)

  -- ---- there is room

  index_small : (b : EventId) → StandsIn s b g k → b.index < LARGEST_COUNT
  index_small b h = grind (arith, barrier_there s b g k h, index_counts s prefixes b)

  size_here : (m : Space) → slice_index (map length (clocks_in clocks m)) g ≡ size_of s g
  size_here m = grind (arith, are.tables m)

  pub group_unspent : IsGroupSpent clocks g → ⊥
  group_unspent h =
      let within = rw (size_here h.0) at h.1.1 in
      let b = barrier h.1.0 within in
      omega (arith, own h.0 b (stands h.1.0 within), h.1.2, index_small b (stands h.1.0 within))

  -- ---- the instance meets

  module _ (new barriers : List EventId) (are_barriers : AreBarriers s g k barriers) (is_order : new ≡ order ++ barriers) where
    abbrev met : Meets s order g k new
    met = record { mark = a; meeting = meeting; barriers = barriers; are = are_barriers; order = is_order }

    -- what a barrier sees, as a count
    barrier_sees : (m : Space) (b : EventId) → StandsIn s b g k → (n : ItemId → ℕ) → ((j : ItemId) → n j ≡ count_of (clock_in clocks m b.at) j + tick_at b.at j) → (d : EventId) → (d.index < n d.at) ↔ Sees s m b d
    barrier_sees m b h n behind = seen_count s m order b (is_next b h) (Knows s m order b.at) (known_handled s m order lawful b.at) (own_known s m order b.at) (count_of (clock_in clocks m b.at)) (counts m b h) (λ d. met_sees s m order new g k prefixes lawful met b d h) n behind

    -- ---- what is known after the meeting

    module _ (new_clocks : ItemClocks) (global local : Bool) (flags_global : global ≡ a.global) (flags_local : local ≡ a.local) (meets : MeetsClocks clocks g global local new_clocks) where
      -- in a memory that is flagged, all that the barriers see
      all_seen : (m : Space) (n : ℕ) (d : EventId) → n < size_of s g → JoinsGroup (clocks_in clocks m) g (clocks_in new_clocks m) → (d.index < count_of (clock_in new_clocks m (item_of g n)) d.at) ↔ ((b : EventId) × StandsIn s b g k × Sees s m b d)
      all_seen m n d within joins =
          let count = joins.counts n d.at (rw (size_here m) within) in
          let most = below_greatest (slice_index (map length (clocks_in clocks m)) g) (λ i. count_of (clock_at (clocks_in clocks m) (item_of g i)) d.at + tick_at (item_of g i) d.at) d.index in
          let sees = λ (b : EventId) (own : StandsIn s b g k). barrier_sees m b own (λ j. count_of (clock_in clocks m b.at) j + tick_at b.at j) (λ j. refl) d in
          rw count (
            λ below.
                let (i, under, seen) = most.0 below in
                let there : i < size_of s g = rw (← size_here m) under in
                (barrier i there, stands i there, (sees (barrier i there) (stands i there)).0 seen),
            λ (b, own, seen). most.1 (b.at.item, rw (size_here m) own.item, grind (arith, (sees b own).1 seen, own.group)),
          )

      group_now : (m : Space) (n : ℕ) (d : EventId) → n < size_of s g → (d.index < count_of (clock_in new_clocks m (item_of g n)) d.at) ↔ Knows s m new (item_of g n) d
      group_now m n d within = by_flag (orders global local m) (meets.groups m) (grind arith)
        where
          by_flag : (b : Bool) → MeetsGroup (clocks_in clocks m) g b (clocks_in new_clocks m) → flags a m ≡ b → (d.index < count_of (clock_in new_clocks m (item_of g n)) d.at) ↔ Knows s m new (item_of g n) d
          by_flag true joins t = against (all_seen m n d within joins) (flagged_knows s m order new g k prefixes lawful met (item_of g n) d t refl within)
          by_flag false ticks f =
              let b = barrier n within in
              against (barrier_sees m b (stands n within) (count_of (clock_in new_clocks m b.at)) (ticks.items n (rw (size_here m) within)).counts d) (unflagged_knows s m order new g k prefixes lawful met b d f (stands n within))

      other_now : (m : Space) (i : ItemId) (d : EventId) → HasItem s.sizes i → i.group ≢ g → (d.index < count_of (clock_in new_clocks m i) d.at) ↔ Knows s m new i d
      other_now m i d has other =
          let same : clock_in new_clocks m i ≡ clock_in clocks m i = grind arith in
          rw same (against (are.counts m i has d) (others_know_after_meet s m order new g k prefixes lawful met i d other))

      pub meets_true : CountWhatIsKnown s new new_clocks
      meets_true = record {
        shape = meets.shape ∙ are.shape;
        tables = λ m. grind (arith, are.tables m);
        counts = λ m i has d. ⊎_elim (λ group. rw group (group_now m i.item d (rw (← group) has.1))) (other_now m i d has) (cases_eq i.group g);
      }

    -- ---- what is left: a barrier is no release

    pub snapshots_behind : (snapshots : Snapshots) → AreSnapshots s order snapshots → AreSnapshots s new snapshots
    snapshots_behind snapshots was r x h at releases = grind (arith, met_cases s Global order new g k prefixes lawful met r h, was r x, barrier_there s r g k)
