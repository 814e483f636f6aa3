-- What is kept of a group's items: as it is read, as a record is taken, an instance is forgotten or lanes go.
use Rattle.gr_model.proofs.Common.{◌≡◌, ◌≢◌, ℕ, ◌+◌, ◌-◌, ◌<◌, ◌≤◌, Bool, true, List, [], ◌∷◌, ◌++◌, ◌⊎◌, Option, None, length, map, filter, get_or, set, drop, take, replicate, refl, sym, ap, ◌∙◌, subst, arith, inl, inr, ⊎_elim, ltb, Some, slice_get, IsTrue, is_some, list_all, IfSome, MatchOption, cases_eq, false_from_ne_true, ltb-true, nat_tests, common_steps, get_or-drop, get_or-map, get_or-replicate, get_or-set_other, get_or-set_same, get_or-take, get_or_read, length-drop, length-map, length-replicate, length-set, length-take-le, length_push, set-get_or, AllPass-from_list_all, gets, slice_get-get_or, slice_get-map, slice_get_within}
use Rattle.std.specs.Borrow.{Bor}
use Rattle.gr_model.specs.declared.event.Event.{Event}
use Rattle.gr_model.specs.declared.event.Kind.TheVariants.{Read}
use Rattle.gr_model.specs.declared.event.Space.TheVariants.{Global}
use Rattle.gr_model.specs.declared.limits.TheConstants.{MOST_RECORDS}
use Rattle.gr_model.specs.Prelude.{is_release, is_barrier, IsEventOk, IsPrefix, is_complete, is_of, places_from}
use Rattle.gr_model.proofs.ListsOfRecords.{length-filter_le}
use Rattle.gr_model.proofs.StreamPrefixes.{prefix_nil, prefix_push}
use Rattle.gr_lanes.specs.declared.bare.Bare.{Bare}
use Rattle.gr_lanes.specs.Indices.{AreRising, Index, IsIndexKeptOf, IsKeptOf, barriers_of, end_in, taking}
use Rattle.gr_lanes.specs.Kept.{Arrives, CameWith, HasNothing, IsGone, IsKept, IsLane, IsLaneOf, Kept, begun, forgetting_one, is_as_first, nothing_kept}
use Rattle.gr_lanes.proofs.IndexLemmas.{few-places, index_here, index_other, length-places, no_trace, places_rise}
use Rattle.gr_lanes.proofs.LaneLemmas.{barrier_at, barriers_count, lane_forgets, lane_more, said_alike, said_count}

-- ---- what is read of an item

-- where the first so many are not asked for, the number is none of them
number_least : (forgotten n : ℕ) (places : List ℕ) → forgotten ≤ length places → ((p : ℕ) → slice_get places n ≡ Some p → forgotten ≤ n) → forgotten ≤ n
number_least forgotten n places passed asked = grind (arith, slice_get-get_or places n 0, asked (get_or places n 0))

-- of its lane
module _ {forgotten : ℕ} {firsts : List Bare} {list : List Event} {i : ℕ} {k : Kept} (at : IsLaneOf forgotten firsts list i k) where
  count_is : length (barriers_of list i) ≡ length k.index.barriers
  count_is = ap (λ (t : Index). length t.barriers) (sym at.index)

  pub number_kept : (n : ℕ) → IsKeptOf forgotten list i n → forgotten ≤ n
  number_kept n asked = number_least forgotten n (barriers_of list i) (omega (arith, count_is, at.lane.passed)) asked

  pub place_read : (n : ℕ) → forgotten ≤ n → slice_get k.barriers (n - forgotten) ≡ slice_get (barriers_of list i) n
  place_read n least = barrier_at at.lane n least ∙ ap (λ (t : Index). slice_get t.barriers n) at.index

  pub count_read : length (barriers_of list i) ≡ forgotten + length k.barriers
  count_read = count_is ∙ barriers_count at.lane

  pub releases_read : k.index.releases ≡ places_from is_release 0 (filter (is_of i) list)
  releases_read = ap (λ (t : Index). t.releases) at.index

  pub released_read : k.index.released ≡ filter is_release (filter (is_of i) list)
  released_read = ap (λ (t : Index). t.released) at.index

  pub places_few : (test : Event → Bool) → length (places_from test 0 (filter (is_of i) list)) < 4_294_967_296
  places_few test = omega (arith, few-places test 0 (filter (is_of i) list), length-filter_le (is_of i) list, at.few)

  pub barriers_read : length (filter is_barrier (filter (is_of i) list)) ≡ forgotten + length k.barriers
  barriers_read = omega (arith, length-places is_barrier 0 (filter (is_of i) list), count_read)

  pub barriers_few : forgotten + length k.barriers < 4_294_967_296
  barriers_few = omega (arith, places_few is_barrier, count_read)

  pub rising : AreRising k.barriers
  rising a b le within = grind (arith, at.lane.places, at.index, length-drop, get_or-drop, places_rise is_barrier 0 (filter (is_of i) list) (forgotten + a) (forgotten + b))

-- where it has none
module _ {size forgotten : ℕ} {list : List Event} {i : ℕ} (gone : IsGone size forgotten list i) where
  gone_few : length (barriers_of list i) ≤ forgotten
  gone_few = grind (arith, nat_tests, gone.barriers)

  pub gone_inside : i < size → length (filter is_barrier (filter (is_of i) list)) ≡ forgotten
  gone_inside within = grind (arith, nat_tests, length-places, gone.barriers)

  pub gone_outside : size ≤ i → length (filter is_barrier (filter (is_of i) list)) ≡ 0
  gone_outside beyond = grind (arith, nat_tests, length-places, gone.barriers)

  gone_past : (n : ℕ) → IsKeptOf forgotten list i n → length (barriers_of list i) ≤ n
  gone_past n asked = number_least (length (barriers_of list i)) n (barriers_of list i) (omega arith) (λ p at. omega (arith, gone_few, asked p at))

  pub gone_place : (n : ℕ) → IsKeptOf forgotten list i n → None ≡ slice_get (barriers_of list i) n
  gone_place n asked = grind (arith, gets, gone_past n asked)

  pub gone_event : (n : ℕ) → IsKeptOf forgotten list i n → None ≡ slice_get (filter is_barrier (filter (is_of i) list)) n
  gone_event n asked = grind (arith, gets, gone_past n asked, length-places)

  pub gone_number : (p : ℕ) → IsIndexKeptOf forgotten list i p → (k : ℕ) → slice_get (barriers_of list i) k ≢ Some p
  gone_number p asked k at = omega (arith, slice_get_within (barriers_of list i) k p at, asked k at, gone_few)

-- how many barriers an item has
pub ruleset barrier_counts = (barriers_read, barriers_few, gone_inside, gone_outside)

-- an item that the group lacks has no events
lacking : {size : ℕ} (forgotten : ℕ) {list : List Event} → IsPrefix size list → (i : ℕ) → size ≤ i → IsGone size forgotten list i
lacking {size} forgotten {list} prefix i beyond = let none = no_trace size list prefix i beyond in record {
  releases = ap (places_from is_release 0) none;
  released = ap (filter is_release) none;
  barriers = rw none (grind (arith, nat_tests));
}

-- of no records
nothing_of : (firsts : List Bare) (i : ℕ) → IsLaneOf 0 firsts [] i nothing_kept
nothing_of firsts i = record { index = refl; lane = record { places = refl; saying = refl; records = refl; passed = omega arith; least = omega arith; within = omega arith; few = omega arith }; few = omega arith }

pub new_kept : (size : ℕ) (firsts : List Bare) (ks : List Kept) → ks ≡ [] → IsKept size 0 firsts ks [] 0 None
new_kept size firsts ks none = record {
  prefix = prefix_nil size;
  few = omega (arith, ap length none);
  each = λ i within. absurd (omega (arith, within, ap length none));
  gone = λ i past. record { releases = refl; released = refl; barriers = grind (arith, nat_tests) };
  whole = λ _. inr (refl, refl);
  count = refl;
  ending = refl;
}

module _ {size forgotten : ℕ} {firsts : List Bare} {ks : List Kept} {list : List Event} {taken : ℕ} {end : Option Bool} (kept : IsKept size forgotten firsts ks list taken end) where
  -- ---- what is read

  pub lane_read : {read : List Kept} → read ≡ ks → {i j : ℕ} → j ≡ i → {lane : Kept} → true ≡ ltb j (length read) → lane ≡ get_or read j lane → IsLaneOf forgotten firsts list i lane
  lane_read {read} same {i} {j} here {lane} there reads =
      let within = ltb-true j (length read) (sym there) in
      subst (IsLaneOf forgotten firsts list i) (sym (get_or_read read j lane within reads nothing_kept ∙ (ap (λ l. get_or l j nothing_kept) same ∙ ap (λ n. get_or ks n nothing_kept) here)))
      (kept.each i (omega (arith, within, ap length same, here)))

  pub lane_is : {read : List Kept} → read ≡ ks → {i j : ℕ} → j ≡ i → (o : Option (Bor Kept)) → is_some o ≡ ltb j (length read) → IfSome o (λ k. k.now ≡ get_or read j k.now) → MatchOption o (IsGone size forgotten list i) (λ k. (fs : List Bare) × IsLaneOf forgotten fs list i k.now)
  lane_is {read} same {i} {j} here None lacks none = kept.gone i (grind (arith, nat_tests, ap length same, here, lacks))
  lane_is same here (Some k) there reads = (firsts, lane_read same here there reads)

  no_bare : Bare
  no_bare = record { kind = Read; space = Global; word = 0 }

  pub none_differs : (n : ℕ) → forgotten ≤ n → length ks ≡ size → (ended : Bool) → list_all (λ k. is_as_first n ended k) ks ≡ true → (b : Bare) × ((i : ℕ) → i < size → CameWith (slice_get (filter is_barrier (filter (is_of i) list)) n) (slice_get (barriers_of list i) n) ended i b)
  none_differs n least all ended agree = (
    get_or firsts (n - forgotten) no_bare,
    λ i within.
        let there : i < length ks = omega (arith, within, all) in
        let lane = kept.each i there in
        let is = AllPass-from_list_all (λ k. is_as_first n ended k) ks agree i nothing_kept there in
        subst (λ (t : Index). CameWith (slice_get t.arrived n) (slice_get t.barriers n) ended i (get_or firsts (n - forgotten) no_bare)) lane.index
        (grind (arith, nat_tests, gets, said_count lane.lane, said_alike lane.lane n least, slice_get-map, lane.lane.within, is)),
  )

  -- ---- a record is taken

  -- first the lanes come, where they had not
  module _ (open_list : ¬ IsTrue (is_complete list)) {now : List Kept} (comes : now ≡ begun size ks) where
    begins : (now ≡ ks) ⊎ ((now ≡ replicate size nothing_kept) × (length ks < size))
    begins = grind (arith, nat_tests)

    pub come_all : length now ≡ size
    come_all = grind (arith, begins, kept.few, length-replicate)

    come_each : (i : ℕ) → i < length now → IsLaneOf forgotten firsts list i (get_or now i nothing_kept)
    come_each i within = ⊎_elim
        (λ (same : now ≡ ks). rw same (kept.each i (omega (arith, within, ap length same))))
        (λ (fresh : (now ≡ replicate size nothing_kept) × (length ks < size)).
        let none : (list ≡ []) × (forgotten ≡ 0) = grind (arith, kept.whole open_list) in
        rw (fresh.0, none.0, none.1, get_or-replicate size i nothing_kept nothing_kept (omega (arith, within, come_all))) (nothing_of firsts i))
        begins

    pub come_kept : IsKept size forgotten firsts now list taken end
    come_kept = record {
      prefix = kept.prefix;
      few = omega (arith, come_all);
      each = come_each;
      gone = λ i past. kept.gone i (omega (arith, past, come_all, kept.few));
      whole = λ _. inl come_all;
      count = kept.count;
      ending = kept.ending;
    }

  -- after a group's first record all lanes are there
  pub all_there : ¬ IsTrue (is_complete list) → list ≢ [] → length ks ≡ size
  all_there open_list some = grind (arith, kept.whole open_list)

  module _ (all : length ks ≡ size) (x : Event) (ok : IsEventOk x size) {j : ℕ} (here : j ≡ x.item) {old : Kept} (reads : old ≡ get_or ks j old) where
    pub lane_was : IsLaneOf forgotten firsts list x.item old
    lane_was = subst (IsLaneOf forgotten firsts list x.item)
        (sym (get_or_read ks j old (omega (arith, here, ok.0, all)) reads nothing_kept ∙ ap (λ n. get_or ks n nothing_kept) here))
        (kept.each x.item (omega (arith, ok.0, all)))

    pub few_was : old.index.count < 4_294_967_295
    few_was = omega (arith, ap (λ (l : Index). l.count) lane_was.index, length-filter_le (is_of x.item) list, kept.prefix.few)

    pub same_kept : {new : Kept} → new ≡ old → {firsts' : List Bare} → firsts' ≡ firsts → IsKept size forgotten firsts' (set ks j new) list taken end
    same_kept is same = rw (same, is, reads, set-get_or ks j old) kept

    module _ (open_list : ¬ IsTrue (is_complete list)) (room : length list < MOST_RECORDS) {firsts' : List Bare} {new : Kept} (arrives : Arrives forgotten firsts firsts' x.item (taking old.index x) new) {end' : Option Bool} (ending : end' ≡ end_in (list ++ x ∷ [])) where
      longer : IsPrefix size (list ++ x ∷ [])
      longer = prefix_push size list x kept.prefix ok (false_from_ne_true (is_complete list) open_list) room

      few_more : (y : Event) → length (list ++ y ∷ []) < 4_294_967_296
      few_more y = omega (arith, room, length_push list y)

      each_more : (i : ℕ) → i < length (set ks j new) → IsLaneOf forgotten firsts' (list ++ x ∷ []) i (get_or (set ks j new) i nothing_kept)
      each_more i within = let there : i < length ks = omega (arith, within, length-set ks j new) in ⊎_elim
          (λ (mine : i ≡ x.item). rw (mine, ← here, get_or-set_same ks j new nothing_kept (omega (arith, there, mine, here))) (record {
            index = rw here (arrives.index_is ∙ (ap (λ t. taking t x) lane_was.index ∙ sym (index_here list x)));
            lane = rw here arrives.lane;
            few = few_more _;
          }))
          (λ other. let was = kept.each i there in rw (get_or-set_other ks j i new nothing_kept (λ e. other (e ∙ here))) (record {
            index = was.index ∙ sym (index_other list x i (grind (arith, nat_tests)));
            lane = rw arrives.grown (lane_more was.lane arrives.more);
            few = few_more _;
          }))
          (cases_eq i x.item)

      pub taken_kept : IsKept size forgotten firsts' (set ks j new) (list ++ x ∷ []) (taken + 1) end'
      taken_kept = record {
        prefix = longer;
        few = omega (arith, length-set ks j new, all);
        each = each_more;
        gone = λ i past. lacking forgotten longer i (omega (arith, past, length-set ks j new, all));
        whole = λ _. inl (length-set ks j new ∙ all);
        count = omega (arith, kept.count, length_push list x);
        ending = ending;
      }

  -- ---- an instance is forgotten, to which all items came

  module _ (came : (i : ℕ) → i < size → (p : ℕ) × (slice_get (barriers_of list i) forgotten ≡ Some p)) {new : List Kept} (is : new ≡ map (forgetting_one forgotten) ks) where
    count_same : length new ≡ length ks
    count_same = ap length is ∙ length-map ks (forgetting_one forgotten)

    came_count : (i : ℕ) → i < size → forgotten < length (barriers_of list i)
    came_count i within = slice_get_within (barriers_of list i) forgotten (came i within).0 (came i within).1

    each_less : (i : ℕ) → i < length new → IsLaneOf (forgotten + 1) (drop 1 firsts) list i (get_or new i nothing_kept)
    each_less i there =
        let within : i < length ks = omega (arith, there, count_same) in
        let was = kept.each i within in
        rw (is, get_or-map (forgetting_one forgotten) ks i nothing_kept nothing_kept within) (record {
          index = was.index;
          lane = lane_forgets was.lane (omega (arith, came_count i (omega (arith, within, kept.few)), ap (λ (t : Index). length t.barriers) was.index));
          few = was.few;
        })

    pub forgotten_kept : IsKept size (forgotten + 1) (drop 1 firsts) new list taken end
    forgotten_kept = record {
      prefix = kept.prefix;
      few = omega (arith, count_same, kept.few);
      each = each_less;
      gone = λ i past. let was = kept.gone i (omega (arith, past, count_same)) in record { releases = was.releases; released = was.released; barriers = grind (arith, nat_tests, was.barriers, came_count i) };
      whole = λ open_list. inl (grind (arith, count_same, came_count 0, kept.whole open_list, kept.few));
      count = kept.count;
      ending = kept.ending;
    }

  -- ---- the last lanes go, which are spent

  module _ (ended : IsTrue (is_complete list)) (n : ℕ) (within : n ≤ length ks) (nothing : (i : ℕ) → n ≤ i → i < length ks → HasNothing (get_or ks i nothing_kept)) {new : List Kept} (is : new ≡ take n ks) where
    count_left : length new ≡ n
    count_left = ap length is ∙ length-take-le n ks within

    spent : (i : ℕ) → n ≤ i → i < length ks → IsGone size forgotten list i
    spent i past there = let none = nothing i past there in let was = kept.each i there in record {
      releases = ap (λ (t : Index). t.releases) (sym was.index) ∙ none.releases;
      released = grind (arith, common_steps, length-places is_release 0 (filter (is_of i) list), ap (λ (t : Index). length t.releases) was.index, none.releases);
      barriers = grind (arith, nat_tests, ap (λ (t : Index). length t.barriers) was.index, barriers_count was.lane, none.barriers, kept.few);
    }

    pub closed_kept : IsKept size forgotten firsts new list taken end
    closed_kept = record {
      prefix = kept.prefix;
      few = omega (arith, count_left, within, kept.few);
      each = λ i there. rw (is, get_or-take n ks i nothing_kept (omega (arith, there, count_left))) (kept.each i (omega (arith, there, count_left, within)));
      gone = λ i past. grind (arith, count_left, spent i, kept.gone i);
      whole = λ open_list. absurd (open_list ended);
      count = kept.count;
      ending = kept.ending;
    }

-- ---- a record is taken, where the lanes may first have come

module _ {size forgotten : ℕ} {firsts : List Bare} {ks : List Kept} {list : List Event} {taken : ℕ} {end : Option Bool} (kept : IsKept size forgotten firsts ks list taken end) (open_list : ¬ IsTrue (is_complete list)) {now : List Kept} (comes : now ≡ begun size ks) (x : Event) (ok : IsEventOk x size) {j : ℕ} (here : j ≡ x.item) where
  module _ {old : Kept} (reads : old ≡ get_or now j old) where
    pub lane_then : IsLane forgotten firsts x.item old
    lane_then = (lane_was (come_kept kept open_list comes) (come_all kept open_list comes) x ok here reads).lane

    pub few_then : old.index.count < 4_294_967_295
    few_then = few_was (come_kept kept open_list comes) (come_all kept open_list comes) x ok here reads

    pub same_then : {new : Kept} → new ≡ old → {firsts' : List Bare} → firsts' ≡ firsts → IsKept size forgotten firsts' (set now j new) list taken end
    same_then = same_kept (come_kept kept open_list comes) (come_all kept open_list comes) x ok here reads

    pub taken_then : length list < MOST_RECORDS → {firsts' : List Bare} {new : Kept} → Arrives forgotten firsts firsts' x.item (taking old.index x) new → {end' : Option Bool} → end' ≡ end_in (list ++ x ∷ []) → IsKept size forgotten firsts' (set now j new) (list ++ x ∷ []) (taken + 1) end'
    taken_then = taken_kept (come_kept kept open_list comes) (come_all kept open_list comes) x ok here reads open_list
