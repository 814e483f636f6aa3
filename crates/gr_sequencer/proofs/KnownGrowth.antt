-- What is known where a record is taken, and where a group comes.
use Rattle.gr_model.proofs.Common.{◌≡◌, ◌≢◌, ◌⊎◌, inl, inr, ◌↔◌, ℕ, ◌<◌, List, refl, ap, ◌∙◌, arith, cases_eq}
use Rattle.gr_sequencer.specs.Types.{Event, EventId, ItemId, Space}
use Rattle.gr_model.specs.Prelude.{IsIn, IsLawful, HasItem, CanAdd, put, with_group, ArePrefixes, Grows, Streams}
use Rattle.gr_model.proofs.GroupLaws.{group_grows, item_was, nothing_came, size_now}
use Rattle.gr_model.proofs.GrowthLaws.{event_grows, word_grows}
use Rattle.gr_clocks.specs.Counts.{count_of}
use Rattle.gr_clocks.specs.ItemClocks.{AddsGroup, clock_in}
use Rattle.gr_lanes.specs.Takes.{CanTake, with_record}
use Rattle.gr_lanes.proofs.Growth.{record_grows}
use Rattle.gr_order.specs.Sequences.{IsSequence, Sequence}
use Rattle.gr_closure.specs.Knowledge.{Knows, by_event, by_instance}
use Rattle.gr_closure.proofs.KnowledgeGrowth.{knowledge_stays, seen_stays}
use Rattle.gr_sequencer.proofs.SeenCounts.{through}
use Rattle.gr_sequencer.specs.Known.{AreSnapshots, IsKnown, Known, Snapshots}

-- ---- a record is taken

module _ (s t : Streams) (order : List EventId) (grows : Grows s t) (lawful : IsLawful s order) where
  pub snapshots_grow : (snapshots : Snapshots) → AreSnapshots s order snapshots → AreSnapshots t order snapshots
  snapshots_grow snapshots are r x h at releases = grind (arith, lawful, event_grows, word_grows, seen_stays)

  pub known_grows : s.sizes ≡ t.sizes → (known : Known) → IsKnown s order known → IsKnown t order known
  known_grows same known is = record {
    clocks = record {
      shape = is.clocks.shape ∙ same;
      tables = λ m. is.clocks.tables m ∙ same;
      counts = λ m i has d. through (is.clocks.counts m i (rw same has) d) (knowledge_stays s t m order grows lawful i d);
    };
    snapshots = snapshots_grow known.snapshots is.snapshots;
  }

pub known_takes : (q : Sequence) → IsSequence q → (g : ℕ) (x : Event) (known : Known) → IsKnown q.taken q.handled known → CanTake q.taken g x → IsKnown (with_record q.taken g x) q.handled known
known_takes q is g x known follows can = known_grows q.taken (with_record q.taken g x) q.handled (record_grows q.taken g x is.prefixes can) is.lawful refl known follows

-- ---- a group comes

module _ (s : Streams) (order : List EventId) (prefixes : ArePrefixes s) (lawful : IsLawful s order) (g n : ℕ) (can : CanAdd s g n) where
  abbrev more : Streams
  more = with_group s g n

  -- none of its events was handled
  no_event : (i : ItemId) (e : EventId) → i.group ≡ g → e.at ≡ i → IsIn order e → ⊥
  no_event i e group item h = grind (arith, lawful.event h.0 e h.1, nothing_came s g n prefixes can)

  knows_nothing : (m : Space) (i : ItemId) (d : EventId) → i.group ≡ g → Knows s m order i d → ⊥
  knows_nothing m i d group (by_event e h item seen) = no_event i e group item h
  knows_nothing m i d group (by_instance a c b h item flagged met seen) = no_event i b group item h

  pub known_with_group : (known now : Known) → IsKnown s order known → AddsGroup known.clocks g n now.clocks → now.snapshots ≡ known.snapshots → IsKnown more order now
  known_with_group known now is adds same = record {
    clocks = record {
      shape = adds.shape ∙ ap (λ (l : List ℕ). put 0 l g n) is.clocks.shape;
      tables = λ m. (adds.tables m).shape ∙ ap (λ (l : List ℕ). put 0 l g n) (is.clocks.tables m);
      counts = λ m i has d. through (counts m i has d (cases_eq i.group g)) (knowledge_stays s more m order (group_grows s g n prefixes can) lawful i d);
    };
    snapshots = rw same (snapshots_grow s more order (group_grows s g n prefixes can) lawful known.snapshots is.snapshots);
  }
    where
      counts : (m : Space) (i : ItemId) → HasItem more.sizes i → (d : EventId) → (i.group ≡ g) ⊎ (i.group ≢ g) → (d.index < count_of (clock_in now.clocks m i) d.at) ↔ Knows s m order i d
      counts m i has d (inl group) = (λ below. absurd (grind (arith, (adds.tables m).fresh i.item d.at, size_now s g n)), λ knows. absurd (knows_nothing m i d group knows))
      counts m i has d (inr apart) = rw ((adds.tables m).others i apart) (is.clocks.counts m i (item_was s g n prefixes can i apart has) d)
