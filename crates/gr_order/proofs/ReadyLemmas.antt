-- Instances and releases, by what is looked at.
use Rattle.gr_model.proofs.Common.{Bool, Contains, IsTrue, ◌↔◌, true, true≢false, ◌≡◌, ℕ, ◌<◌, false, List, [], Some, None, refl, sym, ap, ◌∙◌, subst, arith, option_and_then, common_steps, All, MatchOption, All-contains, All-contains_itself, All-weaker}
use Rattle.std.specs.Bool.{then_some}
use Rattle.gr_order.specs.Types.{Event, ItemId, Name, EventId}
use Rattle.gr_model.specs.Prelude.{IsDivergent, StandsIn, is_barrier, event_word, IsLawful, HasName, names_of, release_place, ArePrefixes, Streams, event_at, place_of, trace_of, word_at}
use Rattle.gr_model.proofs.Cuts.{same_event}
use Rattle.gr_steps.proofs.BarrierPlaces.{barrier_there, same_instance}
use Rattle.gr_steps.specs.Steps.{CanHandle, IsReady}
use Rattle.gr_steps.proofs.NextEvents.{next_is_ready, ready_is_next, ready_release}
use Rattle.gr_steps.proofs.EventRecords.{item_of_event}
use Rattle.gr_clocks.specs.Counts.{Counts, count_of}
use Rattle.gr_lanes.proofs.InstanceLemmas.{barrier_mark}
use Rattle.gr_lanes.specs.Instances.{HasCome}
use Rattle.gr_order.specs.Readiness.{AreReleased, IsReleased, MayPass}
use Rattle.gr_order.specs.States.{AreBelowFrontier}

-- ---- an event that was taken

module _ (s : Streams) (prefixes : ArePrefixes s) (e : EventId) (x : Event) (at : event_at s e ≡ Some x) where
  -- a barrier has come to its instance
  pub come_of : (k : ℕ) → place_of s is_barrier e.at k ≡ Some e.index → HasCome s e.at.group k x
  come_of k place = let h = barrier_mark 0 (trace_of s e.at) k e.index place in record {
    item = e.at.item;
    within = item_of_event s prefixes e x at;
    barrier = grind (arith, h, at);
    came = grind (arith, h, at);
  }

  pub stands_there : (k : ℕ) → place_of s is_barrier e.at k ≡ Some e.index → StandsIn s e e.at.group k
  stands_there k place = record { group = refl; item = item_of_event s prefixes e x at; place = place }

  pub passes_if : (k : ℕ) → place_of s is_barrier e.at k ≡ Some e.index → IsDivergent s e.at.group k → MayPass s e
  passes_if k place divergent h l stands = grind (arith, same_instance s e e.at.group k, stands_there)

-- ---- the release of a name

module _ (s : Streams) (frontier : Counts) (group : ℕ) (x : Event) (n : Name) (index : ℕ) (place : release_place s n ≡ Some index) where
  pub released_if : index < count_of frontier n.at → event_word group x ≡ word_at s (record { at = n.at; index = index }) → IsReleased s frontier group x n
  released_if handled word = record { release = record { at = n.at; index = index }; item = refl; place = place; word = word; handled = handled }

  pub released_only : IsReleased s frontier group x n → event_word group x ≡ word_at s (record { at = n.at; index = index })
  released_only r = grind (arith, common_steps, same_event)

-- ---- the next event of an item

module _ (s : Streams) (order : List EventId) (lawful : IsLawful s order) (frontier : Counts) (first_ones : AreBelowFrontier order frontier) (e : EventId) (next : e.index ≡ count_of frontier e.at) where
  abbrev counts : ItemId → ℕ
  counts i = count_of frontier i

  -- what may be handled of the item is this event
  pub only_next : CanHandle s order e.at → IsReady s order e
  only_next (d, item, ready) =
      let index : d.index ≡ e.index = ready_is_next s order lawful counts first_ones d ready ∙ (ap (count_of frontier) item ∙ sym next) in
      subst (IsReady s order) (same_event d e item index) ready

  pub none_next : event_at s e ≡ None → ¬ CanHandle s order e.at
  none_next none can = grind (arith, only_next can, none)

  module _ (x : Event) (at : event_at s e ≡ Some x) where
    named : (n : Name) → HasName s e n → Contains x.names n
    named n has = subst (λ names. Contains names n) (ap names_of at) has

    names : (n : Name) → Contains x.names n → HasName s e n
    names n is = subst (λ names. Contains names n) (sym (ap names_of at)) is

    word : word_at s e ≡ event_word e.at.group x
    word = ap (option_and_then (event_word e.at.group)) at

    pub ready_if : AreReleased s frontier e.at.group x → MayPass s e → IsReady s order e
    ready_if released pass = next_is_ready s order lawful counts first_ones e (x, at) next
        (λ n has. let r = All-contains (IsReleased s frontier e.at.group x) x.names n released (named n has) in (r.release, record { named = has; item = r.item; place = r.place; word = word ∙ r.word }, r.handled)) pass

    -- no barrier, and nothing is named
    pub ready_plain : is_barrier x ≡ false → x.names ≡ [] → IsReady s order e
    ready_plain plain none = ready_if (subst (All (IsReleased s frontier e.at.group x)) (sym none) (λ k d lt. absurd (omega (arith, lt)))) (λ group k stands. absurd (grind (arith, barrier_there s e group k stands, at, plain)))

    pub ready_only : IsReady s order e → AreReleased s frontier e.at.group x × MayPass s e
    ready_only ready = (
      All-weaker (Contains x.names) (IsReleased s frontier e.at.group x)
          (λ n is. let r = ready_release s order lawful counts first_ones e ready n (names n is) in record { release = r.0; item = r.1.item; place = r.1.place; word = sym word ∙ r.1.word; handled = r.2 }) x.names (All-contains_itself x.names),
      ready.instance,
    )

    -- so it is known whether it is ready
    pub ready_next : (b : Bool) → IsTrue b ↔ (AreReleased s frontier e.at.group x × MayPass s e) → MatchOption (then_some b e) (¬ CanHandle s order e.at) (λ d. (d.at ≡ e.at) × IsReady s order d)
    ready_next false is = λ can. true≢false (sym (is.1 (ready_only (only_next can))))
    ready_next true is = let parts = is.0 refl in (refl, ready_if parts.0 parts.1)
