-- What a lane keeps of an item's barriers.
use Rattle.gr_model.proofs.Common.{◌≡◌, ℕ, ◌+◌, ◌-◌, ◌<◌, ◌≤◌, ◌==◌, Bool, false, true, List, [], ◌∷◌, ◌++◌, length, map, take, drop, sym, ap, ◌∙◌, subst, arith, append-nil, append_assoc, cond, slice_get, nat_tests, common_steps, gets, slice_get-map, drop-append-le, drop-drop, drop-map, length-append, length-drop, length-map, length-take-le, length_push, map-append, take-append-le}
use Rattle.gr_model.specs.declared.event.Event.{Event}
use Rattle.gr_lanes.specs.declared.bare.Bare.{Bare}
use Rattle.gr_lanes.specs.Indices.{taking, with_event}
use Rattle.gr_lanes.specs.Takes.{IsMereAccess}
use Rattle.gr_lanes.specs.Kept.{Arrives, IsLane, Kept, bare_of, barrier_more, forgetting_one, kept_with, of_item}

get-drop : {X : Type 0} (n : ℕ) (xs : List X) (k : ℕ) → slice_get (drop n xs) k ≡ slice_get xs (n + k)
get-drop n xs k = grind (arith, common_steps, gets)

module _ {forgotten : ℕ} {firsts : List Bare} {i : ℕ} {k : Kept} (lane : IsLane forgotten firsts i k) where
  abbrev all_said : List Bare
  all_said = take (k.alike - forgotten) firsts ++ k.apart

  pub barriers_count : length k.index.barriers ≡ forgotten + length k.barriers
  barriers_count = omega (arith, ap length lane.places, length-drop forgotten k.index.barriers, lane.passed)

  pub said_count : length k.index.barriers ≡ k.alike + length k.apart
  said_count = omega (arith, ap length lane.saying, length-map all_said (of_item i), length-append (take (k.alike - forgotten) firsts) k.apart, length-take-le (k.alike - forgotten) firsts lane.within, length-drop forgotten k.index.arrived, lane.records, lane.passed, lane.least)

  pub alike_few : k.alike ≤ k.index.count
  alike_few = omega (arith, said_count, lane.few)

  pub barrier_at : (n : ℕ) → forgotten ≤ n → slice_get k.barriers (n - forgotten) ≡ slice_get k.index.barriers n
  barrier_at n le = ap (λ l. slice_get l (n - forgotten)) lane.places ∙ (get-drop forgotten k.index.barriers (n - forgotten) ∙ ap (slice_get k.index.barriers) (omega (arith, le)))

  pub said_alike : (n : ℕ) → forgotten ≤ n → n < k.alike → slice_get (map (of_item i) firsts) (n - forgotten) ≡ slice_get k.index.arrived n
  said_alike n le below = grind (arith, get-drop forgotten k.index.arrived (n - forgotten), slice_get-map, common_steps, gets, lane.within, lane.saying)

  pub said_apart : (n : ℕ) → k.alike ≤ n → slice_get (map (of_item i) k.apart) (n - k.alike) ≡ slice_get k.index.arrived n
  said_apart n behind = grind (arith, get-drop forgotten k.index.arrived (n - forgotten), slice_get-map, common_steps, gets, lane.within, lane.least, lane.saying)

  -- firsts more change nothing
  pub lane_more : (more : List Bare) → IsLane forgotten (firsts ++ more) i k
  lane_more more = record {
    places = lane.places;
    saying = lane.saying ∙ ap (λ t. map (of_item i) (t ++ k.apart)) (sym (take-append-le (k.alike - forgotten) firsts more lane.within));
    records = lane.records;
    passed = lane.passed;
    least = lane.least;
    within = omega (arith, lane.within, length-append firsts more);
    few = lane.few;
  }

  -- one instance more is forgotten, to which the item came
  pub lane_forgets : forgotten < length k.index.barriers → IsLane (forgotten + 1) (drop 1 firsts) i (forgetting_one forgotten k)
  lane_forgets came = record {
    places = ap (λ l. drop 1 l) lane.places ∙ drop-drop 1 forgotten k.index.barriers;
    saying = sym (drop-drop 1 forgotten k.index.arrived) ∙ (ap (λ l. drop 1 l) lane.saying ∙ (drop-map (of_item i) 1 all_said ∙ ap (map (of_item i)) said));
    records = lane.records;
    passed = omega (arith, came);
    least = grind (arith, nat_tests, lane.least);
    within = grind (arith, nat_tests, common_steps, lane.least, lane.within);
    few = lane.few;
  }
    where
      said : drop 1 all_said ≡ take (cond (k.alike == forgotten) (k.alike + 1) k.alike - (forgotten + 1)) (drop 1 firsts) ++ cond (k.alike == forgotten) (drop 1 k.apart) k.apart
      said = grind (arith, nat_tests, common_steps, lane.least, lane.within)

-- a barrier more
record_is : (x : Event) → x.names ≡ [] → of_item x.item (bare_of x) ≡ x
record_is x bare = λ d. record { item = x.item; kind = x.kind; space = x.space; word = x.word; names = sym bare d }

module _ {forgotten : ℕ} (x : Event) (bare : x.names ≡ []) {k : Kept} {firsts : List Bare} (lane : IsLane forgotten firsts x.item k) where
  pub arrives_apart : {new : Kept} → new ≡ barrier_more k x false → Arrives forgotten firsts firsts x.item (with_event k.index x false true) new
  arrives_apart is = record {
    more = [];
    grown = sym (append-nil firsts);
    lane = subst (IsLane forgotten firsts x.item) (sym is) (record {
      places = ap (λ l. l ++ k.index.count ∷ []) lane.places ∙ sym (drop-append-le forgotten k.index.barriers (k.index.count ∷ []) lane.passed);
      saying =
          drop-append-le forgotten k.index.arrived (x ∷ []) (omega (arith, lane.passed, lane.records)) ∙ (ap (λ l. l ++ x ∷ []) lane.saying
          ∙ (ap (λ y. map (of_item x.item) (take (k.alike - forgotten) firsts ++ k.apart) ++ y ∷ []) (sym (record_is x bare))
          ∙ (sym (map-append (of_item x.item) (take (k.alike - forgotten) firsts ++ k.apart) (bare_of x ∷ [])) ∙ ap (map (of_item x.item)) (append_assoc (take (k.alike - forgotten) firsts) k.apart (bare_of x ∷ [])))));
      records = length_push k.index.arrived x ∙ (ap (λ n. n + 1) lane.records ∙ sym (length_push k.index.barriers k.index.count));
      passed = omega (arith, lane.passed, length_push k.index.barriers k.index.count);
      least = lane.least;
      within = lane.within;
      few = omega (arith, lane.few, length_push k.index.barriers k.index.count);
    });
    index_is = ap (λ (l : Kept). l.index) is;
  }

-- an event more that is no barrier
pub arrives_other : {forgotten : ℕ} {firsts : List Bare} {i : ℕ} {k : Kept} → IsLane forgotten firsts i k → (x : Event) (release : Bool) {new : Kept} → new ≡ kept_with k x release → Arrives forgotten firsts firsts i (with_event k.index x release false) new
arrives_other {forgotten} {firsts} {i} {k} lane x release is = record {
  more = [];
  grown = sym (append-nil firsts);
  lane = subst (IsLane forgotten firsts i) (sym is) (record { places = lane.places; saying = lane.saying; records = lane.records; passed = lane.passed; least = lane.least; within = lane.within; few = omega (arith, lane.few) });
  index_is = ap (λ (l : Kept). l.index) is;
}

pub arrives_access : {forgotten : ℕ} {firsts : List Bare} {i : ℕ} {k : Kept} → IsLane forgotten firsts i k → (x : Event) → IsMereAccess x → {new : Kept} → new ≡ kept_with k x false → Arrives forgotten firsts firsts i (taking k.index x) new
arrives_access lane x mere is = rw (mere.ends, mere.barrier, mere.release) (arrives_other lane x false is)
