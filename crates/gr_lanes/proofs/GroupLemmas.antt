-- What was taken of groups, by what was taken of each.
use Rattle.gr_model.proofs.Common.{◌≡◌, ℕ, ◌+◌, ◌<◌, List, [], ◌∷◌, ◌++◌, length, map, get_or, set, filter, Some, slice_get, sym, ap, ◌∙◌, refl, subst, arith, true, nat_lt, ltb-true, length-map, map-set, map-id, get_or_past, get_or_read, set-get_or, map-set_same, slice_get_within}
use Rattle.std.proofs.lemmas.Simd.{map-map}
use Rattle.std.proofs.Math.ListN.{get_or-map}
use Rattle.gr_model.specs.declared.event.Event.{Event}
use Rattle.gr_model.specs.declared.limits.TheConstants.{MOST_RECORDS}
use Rattle.gr_model.specs.Prelude.{IsPartOfShape, ArePrefixes, IsPrefix, is_of, list_of, places_from, size_of, CanAdd, put, is_barrier, mark_of, IsCut}
use Rattle.gr_model.specs.declared.report.Divergence.{Divergence}
use Rattle.gr_model.proofs.GroupLaws.{nothing_came, prefixes_with_group}
use Rattle.gr_model.proofs.PutLemmas.{map_put}
use Rattle.gr_model.proofs.ListsOfRecords.{length-filter_le}
use Rattle.gr_model.proofs.Places.{filter_map-place}
use Rattle.gr_lanes.proofs.Growth.{prefixes_grow}
use Rattle.gr_lanes.proofs.IndexLemmas.{few-places}
use Rattle.gr_lanes.specs.Indices.{AreGroups, EndsCut, GroupList, empty, remembered_of, taken_of}
use Rattle.gr_lanes.specs.Remembered.{HaveAllCome, IsWhole, Remembered, decided_of, deciding, forgetting, forgotten_of, remembering, with_group}
use Rattle.gr_lanes.specs.Takes.{CanTake, IsEventButItem, nothing_taken, with_record}

-- ---- groups of which nothing was taken

none_at : {X : Type 0} (f : GroupList → X) (sizes : List ℕ) (g : ℕ) → get_or (map f (map empty sizes)) g (f (empty 0)) ≡ f (empty (get_or sizes g 0))
none_at f sizes g = get_or-map f (map empty sizes) g (empty 0) ∙ ap f (get_or-map empty sizes g 0)

pub nothing_is : {sizes : List ℕ} {groups : List GroupList} → groups ≡ map empty sizes → taken_of sizes groups ≡ nothing_taken sizes
nothing_is {sizes} are = ap (taken_of sizes) are ∙ ap (λ l. record { sizes = sizes; lists = l }) (map-map (λ (g : GroupList). g.list) empty sizes)

pub whole_is : {sizes : List ℕ} {groups : List GroupList} → groups ≡ map empty sizes → (l : List ℕ) → l ≡ sizes → IsWhole (remembered_of l groups)
whole_is {sizes} {groups} are l same =
    let count : length groups ≡ length l = ap length are ∙ (length-map sizes empty ∙ ap length (sym same)) in record {
      groups = record { forgotten = length-map groups (λ (x : GroupList). x.forgotten) ∙ count; decided = length-map groups (λ (x : GroupList). x.decided) ∙ count };
      forgotten = λ g. ap (λ gs. get_or (map (λ (x : GroupList). x.forgotten) gs) g 0) are ∙ none_at (λ x. x.forgotten) sizes g;
      decided = λ g. ap (λ gs. get_or (map (λ (x : GroupList). x.decided) gs) g []) are ∙ none_at (λ x. x.decided) sizes g;
    }

pub nothing_groups : {sizes : List ℕ} {groups : List GroupList} → IsPartOfShape sizes → groups ≡ map empty sizes → AreGroups sizes groups
nothing_groups {sizes} {groups} shape are = subst (AreGroups sizes) (sym are) (record {
  same = map-map (λ (g : GroupList). g.size) empty sizes ∙ map-id sizes;
  prefixes = record {
    shape = shape;
    count = length-map (map empty sizes) (λ (g : GroupList). g.list) ∙ length-map sizes empty;
    each = λ g within. subst (IsPrefix (get_or sizes g 0)) (sym (none_at (λ x. x.list) sizes g)) (record { few = omega arith; good = λ p x at. cc });
  };
})

-- ---- what is seen of groups

pub group_count : {sizes : List ℕ} {groups : List GroupList} {r : Remembered} → AreGroups sizes groups → remembered_of sizes groups ≡ r → length r.streams.sizes ≡ length groups
group_count {sizes} {groups} are seen = ap (λ (t : Remembered). length t.streams.sizes) (sym seen) ∙ (ap length (sym are.same) ∙ length-map groups (λ x. x.size))

-- the group at a place, one without items where there is none
abbrev group_at : List GroupList → ℕ → GroupList
group_at groups g = get_or groups g (empty 0)

module _ {sizes : List ℕ} (groups : List GroupList) {r : Remembered} (seen : remembered_of sizes groups ≡ r) (h : ℕ) {now : GroupList} (is : now ≡ group_at groups h) where
  seen_at : (now.list ≡ list_of r.streams h) × (now.forgotten ≡ forgotten_of r h) × (now.decided ≡ decided_of r h)
  seen_at = rw (is, ← seen) (sym (get_or-map (λ (x : GroupList). x.list) groups h (empty 0)), sym (get_or-map (λ (x : GroupList). x.forgotten) groups h (empty 0)), sym (get_or-map (λ (x : GroupList). x.decided) groups h (empty 0)))

  size_at : AreGroups sizes groups → now.size ≡ size_of r.streams h
  size_at are = rw (is, ← seen, ← are.same) (sym (get_or-map (λ (x : GroupList). x.size) groups h (empty 0)))

-- a group that is read
module _ {sizes : List ℕ} {groups : List GroupList} {r : Remembered} (seen : remembered_of sizes groups ≡ r) {found : List GroupList} (is : found ≡ groups) {g h : ℕ} (here : g ≡ h) {now : GroupList} (within : true ≡ nat_lt g (length found)) (reads : now ≡ get_or found g now) where
  found_at : now ≡ group_at groups h
  found_at = get_or_read found g now (ltb-true g (length found) (sym within)) reads (empty 0) ∙ (ap (λ l. group_at l g) is ∙ ap (group_at groups) here)

  pub read_is : (now.list ≡ list_of r.streams h) × (now.forgotten ≡ forgotten_of r h) × (now.decided ≡ decided_of r h)
  read_is = seen_at groups seen h found_at

  pub size_is : AreGroups sizes groups → now.size ≡ size_of r.streams h
  size_is = size_at groups seen h found_at

  pub is_cut_if : AreGroups sizes groups → EndsCut now.list → IsCut r.streams h
  is_cut_if are cut =
      let ends = rw (read_is.0) at cut in
      (omega (arith, ltb-true g (length found) (sym within), ap length is, here, group_count are seen), ends.0, ends.1, ends.2, ends.3)

  pub is_cut_only : IsCut r.streams h → EndsCut now.list
  is_cut_only cut = rw (read_is.0) (cut.1, cut.2, cut.3, cut.4)

-- ---- a group that is written

prefixes : {sizes : List ℕ} {groups : List GroupList} → AreGroups sizes groups → {r : Remembered} → remembered_of sizes groups ≡ r → ArePrefixes r.streams
prefixes are seen = rw (← seen) are.prefixes

-- these groups, but for what is seen of one
abbrev setting : Remembered → ℕ → GroupList → Remembered
setting r h x = record { streams = record { sizes = r.streams.sizes; lists = set r.streams.lists h x.list }; forgotten = set r.forgotten h x.forgotten; decided = set r.decided h x.decided }

module _ {sizes : List ℕ} {groups : List GroupList} (are : AreGroups sizes groups) {r : Remembered} (seen : remembered_of sizes groups ≡ r) {g h : ℕ} (here : g ≡ h) {now : GroupList} (reads : now ≡ get_or groups g now) where
  now_is : g < length groups → now ≡ group_at groups h
  now_is within = get_or_read groups g now within reads (empty 0) ∙ ap (group_at groups) here

  seen_set : (new : GroupList) → remembered_of sizes (set groups g new) ≡ setting r h new
  seen_set new = rw (← seen, ← here) (simp map-set)

  pub unmoved : {new : GroupList} → new ≡ now → set groups g new ≡ groups
  unmoved same = ap (set groups g) (same ∙ reads) ∙ set-get_or groups g now

  set_groups : (new : GroupList) → new.size ≡ now.size → {s : Remembered} → remembered_of sizes (set groups g new) ≡ s → ArePrefixes s.streams → AreGroups sizes (set groups g new)
  set_groups new size is good = record {
    same = map-set_same (λ (x : GroupList). x.size) groups g new now (size ∙ ap (λ (x : GroupList). x.size) reads) ∙ are.same;
    prefixes = subst (λ (t : Remembered). ArePrefixes t.streams) (sym is) good;
  }

  -- a record is taken, which may be
  module _ {x : Event} (can : CanTake r.streams h x) where
    taken_at : (now.list ≡ list_of r.streams h) × (now.forgotten ≡ forgotten_of r h) × (now.decided ≡ decided_of r h)
    taken_at = seen_at groups seen h (now_is (omega (arith, here, can.group, group_count are seen)))

    module _ (good : IsEventButItem x) (room : length (list_of r.streams h) < MOST_RECORDS) {new : GroupList} (is : new ≡ record { size = now.size; list = now.list ++ x ∷ []; forgotten = now.forgotten; decided = now.decided }) where
      pub taken_is : remembered_of sizes (set groups g new) ≡ remembering r (with_record r.streams h x)
      taken_is = seen_set new ∙ simp (is, taken_at.0, taken_at.1, taken_at.2, set-get_or)

      pub taken_groups : AreGroups sizes (set groups g new)
      taken_groups = set_groups new (ap (λ (x : GroupList). x.size) is) taken_is (prefixes_grow r.streams h x (prefixes are seen) can good room)

  -- an instance is forgotten, to which all items came
  module _ (came : HaveAllCome r.streams h (forgotten_of r h)) where
    is_there : g < length groups
    is_there = let size = size_at groups seen h {now = group_at groups h} refl are in let some = came.0 in grind (arith, get_or_past)

    then_at : (now.list ≡ list_of r.streams h) × (now.forgotten ≡ forgotten_of r h) × (now.decided ≡ decided_of r h)
    then_at = seen_at groups seen h (now_is is_there)

    pub all_came : (i : ℕ) → i < now.size → (p : ℕ) × (slice_get (places_from is_barrier 0 (filter (is_of i) now.list)) now.forgotten ≡ Some p)
    all_came i within =
        let mark = came.1 i (omega (arith, within, size_at groups seen h (now_is is_there) are)) in
        let at = filter_map-place mark_of 0 (filter (is_of i) (list_of r.streams h)) (forgotten_of r h) mark.0 mark.1 in
        (at.0, simp (then_at.0, then_at.1) at.1)

    pub few_forgotten : now.forgotten < MOST_RECORDS
    few_forgotten =
        let first = all_came 0 (omega (arith, size_at groups seen h (now_is is_there) are, came.0)) in
        let there = slice_get_within (places_from is_barrier 0 (filter (is_of 0) now.list)) now.forgotten first.0 first.1 in
        let few = ((prefixes are seen).each h (omega (arith, is_there, here, group_count are seen))).few in
        omega (arith, there, few-places is_barrier 0 (filter (is_of 0) now.list), length-filter_le (is_of 0) now.list, few, ap length then_at.0)

    module _ {new : GroupList} (is : new ≡ record { size = now.size; list = now.list; forgotten = now.forgotten + 1; decided = now.decided }) where
      pub forgotten_is : remembered_of sizes (set groups g new) ≡ forgetting r h
      forgotten_is = seen_set new ∙ simp (is, then_at.0, then_at.1, then_at.2, set-get_or)

      pub forgotten_groups : AreGroups sizes (set groups g new)
      forgotten_groups = set_groups new (ap (λ (x : GroupList). x.size) is) forgotten_is (prefixes are seen)

    module _ (d : Divergence) (group : d.group ≡ h) {new : GroupList} (is : new ≡ record { size = now.size; list = now.list; forgotten = now.forgotten + 1; decided = now.decided ++ d ∷ [] }) where
      pub decided_is : remembered_of sizes (set groups g new) ≡ deciding r d
      decided_is = seen_set new ∙ simp (is, then_at.0, then_at.1, then_at.2, set-get_or, group)

      pub decided_groups : AreGroups sizes (set groups g new)
      decided_groups = set_groups new (ap (λ (x : GroupList). x.size) is) decided_is (prefixes are seen)

-- ---- a group comes

-- these groups, and one more that has this list
abbrev adding : Remembered → ℕ → ℕ → List Event → Remembered
adding r g n l = record { streams = record { sizes = put 0 r.streams.sizes g n; lists = put [] r.streams.lists g l }; forgotten = put 0 r.forgotten g 0; decided = put [] r.decided g [] }

module _ {sizes : List ℕ} {groups : List GroupList} (are : AreGroups sizes groups) {r : Remembered} (seen : remembered_of sizes groups ≡ r) {g n : ℕ} (can : CanAdd r.streams g n) {after : List GroupList} (is : after ≡ put (empty 0) groups g (empty n)) where
  map_after : {X : Type 0} (f : GroupList → X) → map f after ≡ put (f (empty 0)) (map f groups) g (f (empty n))
  map_after f = ap (map f) is ∙ map_put f (empty 0) groups g (empty n)

  module _ {shape : List ℕ} (same : shape ≡ put 0 sizes g n) where
    pub added_taken : remembered_of shape after ≡ with_group r g n
    added_taken =
        let here : remembered_of shape after ≡ adding (remembered_of sizes groups) g n [] = λ d. record {
          streams = record { sizes = same d; lists = map_after (λ x. x.list) d };
          forgotten = map_after (λ x. x.forgotten) d;
          decided = map_after (λ x. x.decided) d;
        } in
        here ∙ (ap (λ t. adding t g n []) seen ∙ ap (adding r g n) (sym (nothing_came r.streams g n (prefixes are seen) can)))

    pub added_groups : AreGroups shape after
    added_groups = record {
      same = map_after (λ x. x.size) ∙ (ap (λ (l : List ℕ). put 0 l g n) are.same ∙ sym same);
      prefixes = subst (λ (t : Remembered). ArePrefixes t.streams) (sym added_taken) (prefixes_with_group r.streams g n (prefixes are seen) can);
    }
