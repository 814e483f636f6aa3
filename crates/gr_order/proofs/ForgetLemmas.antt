-- What is forgotten, where records are taken, events handled, and groups come.
use Rattle.gr_model.proofs.Common.{Result, Ok, Err, ◌≡◌, ◌≢◌, ◌⊎◌, ℕ, ◌+◌, ◌<◌, ◌≤◌, List, [], ◌∷◌, ◌++◌, length, Some, get_or, set, refl, sym, ap, ◌∙◌, subst, inl, inr, ⊎_elim, arith, common_steps, cases_eq, get_or-set_other, get_or-set_same, length-set, OnErr, OnOk}
use Rattle.gr_order.specs.Types.{Event, EventId, ItemId, Divergence, DivergenceCause}
use Rattle.gr_model.specs.Prelude.{HasDivergenceCause, IsDivergent, arrivals, is_barrier, mark_of, CanAdd, put, IsIn, DivergenceBelow, IsDivergence, Lists, ArePrefixes, Grows, Streams, is_complete, list_of, place_of, size_of, trace_of}
use Rattle.gr_model.specs.Groups as model
use Rattle.gr_model.proofs.Causes.{cause_diverges, one_cause}
use Rattle.gr_model.proofs.GroupLaws.{group_grows, prefixes_with_group}
use Rattle.gr_model.proofs.GrowthLaws.{not_both, stands_grows}
use Rattle.gr_model.proofs.Places.{filter_map-place, place-filter_map}
use Rattle.gr_model.proofs.PutLemmas.{length_put, put_other, put_same}
use Rattle.gr_steps.proofs.BarrierPlaces.{places_from-once}
use Rattle.gr_steps.proofs.EventRecords.{item_of_event}
use Rattle.gr_clocks.specs.Counts.{Counts, IsTick, count_of}
use Rattle.gr_clocks.specs.Tables.{item_of}
use Rattle.gr_lanes.specs.Remembered.{HaveAllCome, IsDecided, IsEventRemembered, IsRemembered, IsWhole, Remembered, decided_of, deciding, forgetting, forgotten_of, remembering, with_group}
use Rattle.gr_lanes.specs.Takes.{CanTake, with_record}
use Rattle.gr_lanes.proofs.Growth.{record_grows}
use Rattle.gr_lanes.proofs.InstanceLemmas.{barrier_mark}
use Rattle.gr_barriers.proofs.Lists.{listed_push, listed_same, none_listed}
use Rattle.gr_order.specs.Forgetting.{ForgetsHandled, ForgetsLeast, ForgetsNext, ForgetsPassed, HaveAllPassed, IsForgetting}
use Rattle.gr_order.specs.Readiness.{IsNextInstance}
use Rattle.gr_order.specs.States.{TicksItems}
use Rattle.gr_order.proofs.StateLemmas.{within_or_beyond}
use Rattle.gr_order.proofs.DecidedLemmas.{came_on, divergence_stays, divergence_was, size_stays, size_there}

-- each item's count is at least what it was
abbrev pub AreMore : Counts → Counts → Type 0
AreMore old new = (i : ItemId) → count_of old i ≤ count_of new i

pub whole_forgets : (r : Remembered) (frontier : Counts) → IsWhole r → IsForgetting r frontier
whole_forgets r frontier whole = record {
  decided = record {
    groups = whole.groups;
    came = λ g k below. absurd (omega (arith, whole.forgotten g));
    lists = λ g. rw (whole.decided g) (none_listed DivergenceBelow (IsDecided r g) (λ d is. omega (arith, is.below, whole.forgotten g)));
  };
  handled = λ e k at below. absurd (omega (arith, whole.forgotten e.at.group));
}

-- a barrier is one of an item that is there
barrier_item : (s : Streams) → ArePrefixes s → (e : EventId) (k : ℕ) → place_of s is_barrier e.at k ≡ Some e.index → e.at.item < size_of s e.at.group
barrier_item s prefixes e k at = grind (arith, barrier_mark 0 (trace_of s e.at) k e.index at, item_of_event s prefixes e)

-- ---- more records come, and more is handled

module _ (old : Remembered) (t : Streams) (before after : Counts) (grows : Grows old.streams t) (prefixes : ArePrefixes t) (counts : AreMore before after) (was : IsForgetting old before) where
  -- as many are forgotten of a group, and the same are kept
  still_listed : (counts : List ℕ) (lists : List (List Divergence)) (g : ℕ) → get_or counts g 0 ≡ forgotten_of old g → Lists DivergenceBelow (IsDecided (record { streams = t; forgotten = counts; decided = lists }) g) (decided_of old g)
  still_listed counts lists g count = listed_same DivergenceBelow (IsDecided old g) (IsDecided (record { streams = t; forgotten = counts; decided = lists }) g) (decided_of old g) (was.decided.lists g)
      (λ d is. record { divergence = divergence_stays old.streams t grows d.group d.instance (was.decided.came d.group d.instance (rw is.group is.below)) d.cause is.divergence; group = is.group; below = rw count is.below })
      (λ d is. let below = rw count at is.below in record { divergence = divergence_was old.streams t grows d.group d.instance (was.decided.came d.group d.instance (rw is.group below)) d.cause is.divergence; group = is.group; below = below })

  handled_on : (e : EventId) (k : ℕ) → place_of t is_barrier e.at k ≡ Some e.index → k < forgotten_of old e.at.group → e.index < count_of after e.at
  handled_on e k at below =
      let came = was.decided.came e.at.group k below in
      let within : e.at.item < size_of old.streams e.at.group = omega (arith, barrier_item t prefixes e k at, size_stays old.streams t grows e.at.group k came) in
      let a = came.1 e.at.item within in
      let stood = filter_map-place mark_of 0 (trace_of old.streams e.at) k a.0 a.1 in
      let stands = stands_grows old.streams t grows (record { at = e.at; index = stood.0 }) e.at.group k (record { group = refl; item = within; place = stood.1 }) in
      grind (arith, stands.place, was.handled (record { at = e.at; index = stood.0 }) k stood.1 below, counts e.at)

  -- what was forgotten of the streams before is forgotten of those behind
  pub forgets_grown : length t.sizes ≡ length old.streams.sizes → IsForgetting (remembering old t) after
  forgets_grown count = record {
    decided = record {
      groups = record { forgotten = was.decided.groups.forgotten ∙ sym count; decided = was.decided.groups.decided ∙ sym count };
      came = λ g k below. came_on old.streams t grows g k (was.decided.came g k below);
      lists = λ g. still_listed old.forgotten old.decided g refl;
    };
    handled = handled_on;
  }

  -- a group comes
  module _ (g n : ℕ) (is : t ≡ model.with_group old.streams g n) where
    abbrev grown : Remembered
    grown = record { streams = t; forgotten = put 0 old.forgotten g 0; decided = put [] old.decided g [] }

    below_was : (h k : ℕ) → k < forgotten_of grown h → (h ≢ g) × (k < forgotten_of old h)
    below_was h k below = grind (arith, common_steps, put_same, put_other)

    pub forgets_coming : IsForgetting grown after
    forgets_coming = record {
      decided = record {
        groups = record {
          forgotten = omega (arith, length_put 0 old.forgotten g 0, length_put 0 old.streams.sizes g n, was.decided.groups.forgotten, ap (λ (u : Streams). length u.sizes) is);
          decided = omega (arith, length_put [] old.decided g [], length_put 0 old.streams.sizes g n, was.decided.groups.decided, ap (λ (u : Streams). length u.sizes) is);
        };
        came = λ h k below. came_on old.streams t grows h k (was.decided.came h k (below_was h k below).1);
        lists = λ h. ⊎_elim
            (λ (same : h ≡ g).
            rw (ap (λ m. get_or (put [] old.decided g []) m []) same ∙ put_same [] old.decided g [])
            (none_listed DivergenceBelow (IsDecided grown h) (λ d is. (below_was h d.instance is.below).0 same)))
            (λ (apart : h ≡ g → ⊥).
            rw (put_other [] old.decided g [] h apart) (still_listed (put 0 old.forgotten g 0) (put [] old.decided g []) h (put_other 0 old.forgotten g 0 h apart)))
            (cases_eq h g);
      };
      handled = λ e k at below. handled_on e k at (below_was e.at.group k below).1;
    }

-- a record is taken
pub forgets_taken : (old new : Remembered) (g : ℕ) (x : Event) → ArePrefixes old.streams → CanTake old.streams g x → new ≡ remembering old (with_record old.streams g x) → ArePrefixes new.streams → (before after : Counts) → AreMore before after → IsForgetting old before → IsForgetting new after
forgets_taken old new g x prefixes can is prefixes_new before after counts was =
    rw is (forgets_grown old (with_record old.streams g x) before after (record_grows old.streams g x prefixes can) (rw is at prefixes_new) counts was refl)

-- a group comes
pub forgets_with_group : (old new : Remembered) (g n : ℕ) → ArePrefixes old.streams → CanAdd old.streams g n → new ≡ with_group old g n → (before after : Counts) → ((i : ItemId) → count_of after i ≡ count_of before i) → IsForgetting old before → IsForgetting new after
forgets_with_group old new g n prefixes can is before after counts was =
    rw is (forgets_coming old (model.with_group old.streams g n) before after (group_grows old.streams g n prefixes can) (prefixes_with_group old.streams g n prefixes can) (λ i. omega (arith, counts i)) was g n refl)

-- more is handled
pub forgets_on : (r : Remembered) → (before after : Counts) → AreMore before after → IsForgetting r before → IsForgetting r after
forgets_on r before after counts was = record { decided = was.decided; handled = λ e k at below. omega (arith, was.handled e k at below, counts e.at) }

pub tick_counts : (before : Counts) (i : ItemId) (after : Counts) → IsTick before i after → AreMore before after
tick_counts before i after tick j = let counts = tick.counts j in omega (arith, counts)

-- ---- what is asked for is remembered

pub next_remembered : (r : Remembered) (frontier : Counts) → IsForgetting r frontier → (e : EventId) → count_of frontier e.at ≤ e.index → IsEventRemembered r e
next_remembered r frontier forgets e behind k at = grind (arith, common_steps)

pub unhandled_remembered : (r : Remembered) (order : List EventId) → ForgetsHandled r order → (e : EventId) → ¬ IsIn order e → IsEventRemembered r e
unhandled_remembered r order forgets e out k at = grind (arith, common_steps)

pub barrier_remembered : (r : Remembered) (order : List EventId) → ForgetsHandled r order → (i : ItemId) (k : ℕ) → ((p : ℕ) → place_of r.streams is_barrier i k ≡ Some p → ¬ IsIn order (record { at = i; index = p })) → IsRemembered r i k
barrier_remembered r order forgets i k out p at = unhandled_remembered r order forgets (record { at = i; index = p }) (out p at) k at

-- ---- the least instance remembered is forgotten

-- those who have passed have come
pub passed_came : (s : Streams) (frontier : Counts) (g k : ℕ) → HaveAllPassed s frontier g k → HaveAllCome s g k
passed_came s frontier g k passed =
    (passed.0, λ i lt. let mine = passed.1 i lt in place-filter_map mark_of 0 (trace_of s (record { group = g; item = i })) k mine.0 mine.1)

module _ (old : Remembered) (prefixes : ArePrefixes old.streams) (frontier : Counts) (was : IsForgetting old frontier) (g : ℕ) (passed : HaveAllPassed old.streams frontier g (forgotten_of old g)) where
  abbrev least : ℕ
  least = forgotten_of old g

  abbrev counts : List ℕ
  counts = set old.forgotten g (least + 1)

  within : g < length old.streams.sizes
  within = size_there old.streams g passed.0

  -- below the new count: one that was forgotten, or the least that was remembered
  below_cases : (h k : ℕ) → k < get_or counts h 0 → (k < forgotten_of old h) ⊎ ((h ≡ g) × (k ≡ least))
  below_cases h k below = grind (arith, get_or-set_same, get_or-set_other, within, was.decided.groups.forgotten)

  still_below : (h k : ℕ) → k < forgotten_of old h → k < get_or counts h 0
  still_below h k below = grind (arith, get_or-set_same, get_or-set_other, within, was.decided.groups.forgotten)

  abbrev more : List (List Divergence) → Remembered
  more lists = record { streams = old.streams; forgotten = counts; decided = lists }

  -- of a group of which no instance more is divergent the same are kept
  still_kept : (lists : List (List Divergence)) (h : ℕ) → ((d : Divergence) → IsDivergence old.streams d → d.group ≡ h → (h ≡ g) × (d.instance ≡ least) → ⊥) → Lists DivergenceBelow (IsDecided (more lists) h) (decided_of old h)
  still_kept lists h none = listed_same DivergenceBelow (IsDecided old h) (IsDecided (more lists) h) (decided_of old h) (was.decided.lists h)
      (λ d is. record { divergence = is.divergence; group = is.group; below = still_below h d.instance is.below })
      (λ d is. grind (arith, is, none d, below_cases h d.instance is.below))

  forgets_more : (lists : List (List Divergence)) → length lists ≡ length old.streams.sizes → ((h : ℕ) → Lists DivergenceBelow (IsDecided (more lists) h) (get_or lists h [])) → IsForgetting (more lists) frontier
  forgets_more lists size listed = record {
    decided = record {
      groups = record { forgotten = length-set old.forgotten g (least + 1) ∙ was.decided.groups.forgotten; decided = size };
      came = λ h k below. ⊎_elim (was.decided.came h k) (λ (last : (h ≡ g) × (k ≡ least)). rw (last.0, last.1) (passed_came old.streams frontier g least passed)) (below_cases h k below);
      lists = listed;
    };
    handled = λ e k at below. grind (arith, below_cases e.at.group k below, was.handled e k at, barrier_item old.streams prefixes e k at, passed.1 e.at.item);
  }

  -- it is not divergent
  forgets_plain : ¬ IsDivergent old.streams g least → IsForgetting (forgetting old g) frontier
  forgets_plain plain = forgets_more old.decided was.decided.groups.decided
      (λ h. still_kept old.decided h (λ d is group last. plain (rw (group ∙ last.0, last.1) at is.divergent)))

  -- it is, and kept as this divergence
  module _ (d : Divergence) (is : IsDivergence old.streams d) (group : d.group ≡ g) (instance : d.instance ≡ least) where
    abbrev lists : List (List Divergence)
    lists = set old.decided g (decided_of old g ++ d ∷ [])

    abbrev kept : Remembered
    kept = more lists

    is_this : (e : Divergence) → IsDivergence old.streams e → e.group ≡ g → e.instance ≡ least → e ≡ d
    is_this e is_too group_too instance_too =
        let both : (e.group ≡ d.group) × (e.instance ≡ d.instance) = (group_too ∙ sym group, instance_too ∙ sym instance) in
        let same : e.cause ≡ d.cause = one_cause (is_complete (list_of old.streams d.group)) (size_of old.streams d.group) (arrivals old.streams d.group d.instance) e.cause d.cause (rw (both.0, both.1) at is_too.cause) is.cause in
        λ i. record { group = both.0 i; instance = both.1 i; cause = same i }

    lists_here : Lists DivergenceBelow (IsDecided kept g) (decided_of old g ++ d ∷ [])
    lists_here = listed_push DivergenceBelow (IsDecided old g) (IsDecided kept g) (decided_of old g) d (was.decided.lists g)
        (λ e is_old. grind (arith, is_old, group, instance))
        (record { divergence = is; group = group; below = omega (arith, instance, get_or-set_same old.forgotten g (least + 1) 0, within, was.decided.groups.forgotten) })
        (λ e is_old. record { divergence = is_old.divergence; group = is_old.group; below = still_below g e.instance is_old.below })
        (λ e is_new. grind (arith, below_cases g e.instance is_new.below, is_this e, is_new))

    lists_kept : (h : ℕ) → Lists DivergenceBelow (IsDecided kept h) (decided_of kept h)
    lists_kept h = ⊎_elim
        (λ (here : h ≡ g).
        rw (here, get_or-set_same old.decided g (decided_of old g ++ d ∷ []) [] (omega (arith, within, was.decided.groups.decided))) lists_here)
        (λ (apart : h ≡ g → ⊥).
        rw (get_or-set_other old.decided g h (decided_of old g ++ d ∷ []) [] apart) (still_kept lists h (λ e is_new here last. apart last.0)))
        (cases_eq h g)

    forgets_decided : IsForgetting (deciding old d) frontier
    forgets_decided = subst (λ n. IsForgetting (record { streams = old.streams; forgotten = set old.forgotten n (forgotten_of old n + 1); decided = set old.decided n (decided_of old n ++ d ∷ []) }) frontier) (sym group)
        (forgets_more lists (length-set old.decided g (decided_of old g ++ d ∷ []) ∙ was.decided.groups.decided) lists_kept)

  pub forgets_least : (new : Remembered) → ForgetsLeast old g new → IsForgetting new frontier
  forgets_least new (inl plain) = subst (λ (r : Remembered). IsForgetting r frontier) (sym plain.0) (forgets_plain plain.1)
  forgets_least new (inr (d, same, is, group, instance)) = subst (λ (r : Remembered). IsForgetting r frontier) (sym same) (forgets_decided d is group instance)

pub forgets_passed : (old : Remembered) → ArePrefixes old.streams → (frontier : Counts) → IsForgetting old frontier → (g : ℕ) (new : Remembered) → ForgetsPassed old frontier g new → IsForgetting new frontier
forgets_passed old prefixes frontier was g new (inl same) = subst (λ (r : Remembered). IsForgetting r frontier) (sym same) was
forgets_passed old prefixes frontier was g new (inr passed) = forgets_least old prefixes frontier was g passed.0 new passed.1

-- it is decided, or there is no room for it
pub decides : {T E : Type 0} (old new : Remembered) (frontier : Counts) (g k : ℕ) (c : DivergenceCause) (r : Result T E) → g < length old.streams.sizes → HaveAllPassed old.streams frontier g (forgotten_of old g) → k ≡ forgotten_of old g → HasDivergenceCause (is_complete (list_of old.streams g)) (size_of old.streams g) (arrivals old.streams g k) c → OnOk r (new ≡ deciding old (record { group = g; instance = k; cause = c })) → OnErr r (new ≡ old) → ForgetsPassed old frontier g new
decides old new frontier g k c (Ok x) there passed is cause ok err = inr (passed, inr (record { group = g; instance = k; cause = c }, ok, record { group = there; divergent = cause_diverges (is_complete (list_of old.streams g)) (size_of old.streams g) (arrivals old.streams g k) c cause; cause = cause }, refl, is))
decides old new frontier g k c (Err x) there passed is cause ok err = inl err

-- ---- an instance meets

-- the least one remembered is the next one, where the first item's next event is its barrier of that number
pub least_is_next : (s : Streams) (frontier : Counts) (g k least m n : ℕ) → IsNextInstance s frontier g k → m ≡ least → Some n ≡ place_of s is_barrier (record { group = g; item = 0 }) m → n ≡ count_of frontier (record { group = g; item = 0 }) → IsNextInstance s frontier g least
least_is_next s frontier g k least m n next is place count = grind (arith, common_steps, places_from-once)

pub next_came : (s : Streams) (frontier : Counts) (g k : ℕ) → IsNextInstance s frontier g k → HaveAllCome s g k
next_came s frontier g k next = (next.some, λ i within. (next.mark, (next.each i within).mark))

module _ (old : Remembered) (prefixes : ArePrefixes old.streams) (before after : Counts) (g n : ℕ) (size : n ≡ size_of old.streams g) (ticks : TicksItems before g n after) (was : IsForgetting old before) where
  on : IsForgetting old after
  on = forgets_on old before after (λ i. grind (arith, common_steps, within_or_beyond)) was

  -- its items have passed it behind the step
  next_passed : IsNextInstance old.streams before g (forgotten_of old g) → HaveAllPassed old.streams after g (forgotten_of old g)
  next_passed next = (
    next.some,
    λ i within.
        let more = ticks.items i (omega (arith, within, size)) in
        (count_of before (item_of g i), (next.each i within).place, omega (arith, more)),
  )

  pub forgets_met : (new : Remembered) → ForgetsNext old before g new → IsForgetting new after
  forgets_met new (inl same) = subst (λ (r : Remembered). IsForgetting r after) (sym same) on
  forgets_met new (inr next) = forgets_least old prefixes after on g (next_passed next.1) new (inl (next.0, not_both old.streams g (forgotten_of old g) next.1.mark (next.1.some, λ i within. (next.1.each i within).mark)))
