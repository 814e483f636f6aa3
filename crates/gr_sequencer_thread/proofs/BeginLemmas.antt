-- Where the sequencer's thread begins.
use Rattle.gr_model.proofs.Common.{◌≡◌, ℕ, ◌%◌, List, [], length, get_or, false, sym, ap, ◌∙◌, arith, mod-lt, All, get_or-map, All-map}
use Rattle.std.proofs.Math.ListN.{get_or-map as get_or-map_all}
use Rattle.gr_model.specs.declared.event.Event.{Event}
use Rattle.gr_model.specs.Prelude.{IsConfig, Settings, events_of, list_of, size_of}
use Rattle.gr_model.proofs.StreamPrefixes.{prefix_nil}
use Rattle.gr_clocks.specs.ClockedAccess.{ClockedAccess}
use Rattle.gr_closure.specs.AccessesAlong.{of_none}
use Rattle.gr_order.specs.Sequences.{IsSequence, Sequence, nothing}
use Rattle.gr_route.specs.IntakeSeats.{Taker, popped_of}
use Rattle.gr_route.specs.WorkRule.{is_stopped}
use Rattle.gr_route.specs.WorkSeats.{Giver}
use Rattle.gr_taking.specs.Sources.{ListedRecords}
use Rattle.gr_threads.specs.Given.{accesses_in}
use Rattle.gr_sequencer_thread.specs.Feeds.{AreNoBacklogs, IsFeed, IsFresh, given_of}
use Rattle.gr_sequencer_thread.proofs.Changes.{none_at}
use Rattle.gr_sequencer_thread.proofs.TakeLemmas.{come_one}

abbrev pub no_events : ℕ → List Event
no_events n = []

module _ {A : Type 0} (config : Settings) (is : IsConfig config) (sizes : List ℕ) (seq : Sequence) (sequence : IsSequence seq) (from : seq ≡ nothing sizes) (coming : List ListedRecords) (none : AreNoBacklogs sizes coming) (takers : List Taker) (givers : List (Giver A)) (fresh : IsFresh config sizes takers givers) where
  same : seq.taken.sizes ≡ sizes
  same = ap (λ (s : Sequence). s.taken.sizes) from

  none_taken : (g : ℕ) → list_of seq.taken g ≡ []
  none_taken g = ap (λ (s : Sequence). get_or s.taken.lists g []) from ∙ get_or-map_all no_events sizes g 0

  none_popped : (g : ℕ) (d : Taker) → popped_of (get_or takers (g % config.queues) d) g ≡ []
  none_popped g d = ap (events_of g) (fresh.popped (g % config.queues) d (omega (arith, mod-lt g is.queues.0, fresh.queues)))

  none_given : (k : ℕ) → get_or (given_of givers) k [] ≡ []
  none_given = none_at (given_of givers) (All-map (λ (l : List ClockedAccess). l ≡ []) (λ (u : Giver A). accesses_in u.pushed) givers (λ k d lt. ap accesses_in (fresh.pushed k d lt)))

  pub fresh_feed : (on_way : List (List ClockedAccess)) → All (λ l. l ≡ []) on_way → IsFeed (record { config = config; sizes = sizes; sequence = seq; takers = takers; givers = givers; coming = coming; on_way = on_way; failed = false })
  fresh_feed on_way empty = record {
    config = is;
    queues = fresh.queues;
    worker_count = fresh.worker_count;
    backlogs = none.count;
    seated = fresh.seated;
    unstopped = λ k d lt. ap is_stopped (fresh.pushed k d lt);
    good = λ f. record {
      same = same;
      sequence = sequence;
      popped = record {
        count = none.count ∙ ap length (sym same);
        each = λ g f d lt.
            let b : ListedRecords = record { group = g; records = [] } in
            grind (arith, get_or-map (come_one seq.taken) coming g b f, none.each g b, none.count, ap length same, none_taken g, none_popped g d);
        prefixes = λ g d lt. rw (none_popped g d) (prefix_nil (size_of seq.taken g));
      };
      passed = ([], rw from of_none, λ k lt. grind (arith, none_given k, none_at on_way empty k));
    };
  }
