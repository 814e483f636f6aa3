-- What is known where an event that names nothing is handled as soon as its record is taken.
use Rattle.gr_model.proofs.Common.{arith, ◌≡◌, ℕ, ◌<◌, length, [], ◌∷◌, ◌++◌, false, refl, ap, ◌∙◌}
use Rattle.gr_sequencer.specs.Types.{Event, EventId, MOST_RECORDS}
use Rattle.gr_model.specs.Prelude.{is_release, Streams, event_at, list_of}
use Rattle.gr_steps.specs.Steps.{IsReady}
use Rattle.gr_steps.proofs.StepGrowth.{lawful_grows}
use Rattle.gr_clocks.specs.ItemClocks.{ItemClocks, Ticks}
use Rattle.gr_lanes.specs.Takes.{IsEventButItem, next_of, with_record}
use Rattle.gr_lanes.proofs.Growth.{prefixes_grow, record_grows}
use Rattle.gr_order.specs.AtOnce.{GoesAtOnce}
use Rattle.gr_order.specs.Sequences.{IsSequence, Sequence}
use Rattle.gr_order.proofs.AtOnceLemmas.{there_at_once}
use Rattle.gr_sequencer.specs.Known.{CountWhatIsKnown, IsKnown, IsNextAtOnce, Known}
use Rattle.gr_sequencer.specs.Sources.{AreSources}
use Rattle.gr_sequencer.proofs.EventSteps.{learns_nothing_true, snapshots_longer}
use Rattle.gr_sequencer.proofs.KnownGrowth.{known_grows}
use Rattle.gr_sequencer.proofs.Teaching.{sources_all, sources_none}

module _ (q : Sequence) (g : ℕ) (x : Event) (known : Known) (e : EventId) (is : IsNextAtOnce q g x known e) where
  abbrev more : Streams
  more = with_record q.taken g x

  no_sources : AreSources more e []
  no_sources = grind (arith, sources_all more e x is.there [], sources_none more e, is.names)

  -- the clocks where the item's have one event more
  pub known_at_once : (new : ItemClocks) → Ticks known.clocks e.at new → CountWhatIsKnown more (q.handled ++ e ∷ []) new
  known_at_once new ticks = learns_nothing_true more q.handled known e is.next new no_sources ticks

-- a record that goes at once is such an event
pub next_at_once : (q : Sequence) → IsSequence q → (g : ℕ) (x : Event) → GoesAtOnce q g x → IsEventButItem x → length (list_of q.taken g) < MOST_RECORDS → (known : Known) → IsKnown q.taken q.handled known
    → (e : EventId) → e ≡ next_of q.taken g x → IsReady (with_record q.taken g x) q.handled e → IsNextAtOnce q g x known e
next_at_once q is g x go good room known follows e same ready =
    let grows = record_grows q.taken g x is.prefixes go.can in record {
      next = record {
        prefixes = prefixes_grow q.taken g x is.prefixes go.can good room;
        lawful = lawful_grows q.taken (with_record q.taken g x) grows q.handled is.lawful;
        follows = known_grows q.taken (with_record q.taken g x) q.handled grows is.lawful refl known follows;
        ready = ready;
      };
      there = ap (event_at (with_record q.taken g x)) same ∙ there_at_once q.taken g x is.prefixes go.can go.access.ends;
      names = go.access.names;
    }

-- what is known after it: no snapshot is kept of it, as it is no release
pub known_behind : (q : Sequence) (g : ℕ) (x : Event) (known : Known) (e : EventId) → IsNextAtOnce q g x known e → is_release x ≡ false → (now : Known) → now.snapshots ≡ known.snapshots
    → CountWhatIsKnown (with_record q.taken g x) (q.handled ++ e ∷ []) now.clocks → IsKnown (with_record q.taken g x) (q.handled ++ e ∷ []) now
known_behind q g x known e is plain now same clocks = record {
  clocks = clocks;
  snapshots = snapshots_longer (with_record q.taken g x) q.handled known e is.next now.snapshots (λ r other. cc) (λ y at releases. absurd (grind (arith, is.there)));
}
