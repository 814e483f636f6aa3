-- The lists of a launch, of which all records are to come, and then none is.
use Rattle.gr_model.proofs.Common.{[], ◌≡◌, ◌<◌, ◌∷◌, ℕ, List, length, get_or, map, map-id, refl, sym, ap, ◌∙◌, append-nil, arith, All, ext_get_or, get_or-map, length-map, get_or_past, cases_lt, inl, ⊎_elim, ◌++◌, ◌≤◌}
use Rattle.std.proofs.Math.ListN.{get_or-map as map_at}
use Rattle.gr_model.specs.declared.event.Event.{Event}
use Rattle.gr_model.specs.Prelude.{AreAccepted, Grows, IsPrefix, Streams, list_of, size_of}
use Rattle.gr_model.proofs.StreamPrefixes.{prefix_whole}
use Rattle.gr_lanes.specs.Takes.{nothing_taken}
use Rattle.gr_taking.specs.Sources.{AreListsOf, ListedRecords, MayCome, come_from, come_of}
use Rattle.gr_taking.specs.Taken.{read_by}
use Rattle.gr_taking.proofs.TakenLemmas.{empty_at}

abbrev own : ListedRecords → ℕ
own x = x.group

abbrev itself : ℕ → ℕ
itself g = g

abbrev records : ListedRecords → List Event
records x = x.records

-- what has come of lists
abbrev pub come : Streams → List ListedRecords → List (ℕ × List Event)
come t xs = come_from own itself records t xs

abbrev none : ListedRecords
none = record { group = 0; records = [] }

module _ (s : Streams) (accepted : AreAccepted s) (xs : List ListedRecords) (are : AreListsOf s xs) where
  -- what has come of the list at a place, where nothing was taken
  first_at : (g : ℕ) (f : ℕ × List Event) → g < length xs → get_or (come (nothing_taken s.sizes) xs) g f ≡ (g, list_of s g)
  first_at g f lt = grind (arith, get_or-map, are.each g none lt, empty_at s.sizes g)

  -- the launch may have them
  pub lists_may_come : MayCome itself s.sizes (come (nothing_taken s.sizes) xs)
  lists_may_come = record {
    there = λ g f lt. grind (arith, length-map, are.count, first_at g f);
    prefixes = λ g f lt.
        let list = accepted.each g (omega (arith, lt, length-map xs (come_of own itself records (nothing_taken s.sizes)), are.count)) in
        rw (first_at g f (omega (arith, lt, length-map xs (come_of own itself records (nothing_taken s.sizes))))) (record { few = list.few; good = list.good });
    differ = λ i j f lt there same. grind (arith, length-map, first_at i f, first_at j f);
  }

  -- once all has come, they were taken
  pub all_came : (t : Streams) (ys : List ListedRecords) → t.sizes ≡ s.sizes → length t.lists ≡ length t.sizes → come t ys ≡ come (nothing_taken s.sizes) xs → All (λ y. y.records ≡ []) ys → t ≡ s
  all_came t ys sizes count same empty =
      let as_many = length-map ys (come_of own itself records t) in
      let all = length-map xs (come_of own itself records (nothing_taken s.sizes)) in
      let at : (g : ℕ) → g < length xs → list_of t g ≡ list_of s g = λ g lt.
      let is : get_or (come t ys) g (come_of own itself records t none) ≡ (g, list_of s g) = rw same (first_at g _ lt) in
      grind (arith, get_or-map, empty g none, append-nil) in
      let lists : t.lists ≡ s.lists = ext_get_or [] t.lists s.lists (count ∙ (ap length sizes ∙ sym accepted.count)) (λ g lt. at g (omega (arith, lt, count, ap length sizes, are.count))) in
      λ k. record { sizes = sizes k; lists = lists k }

  -- and before, what was taken grows to it
  pub some_came : (t : Streams) (ys : List ListedRecords) → t.sizes ≡ s.sizes → length t.lists ≡ length t.sizes → come t ys ≡ come (nothing_taken s.sizes) xs → Grows t s
  some_came t ys sizes count same =
      let all = length-map xs (come_of own itself records (nothing_taken s.sizes)) in
      let as_many = length-map ys (come_of own itself records t) in
      let at : (g : ℕ) → g < length xs → list_of s g ≡ list_of t g ++ (get_or ys g none).records = λ g lt.
      let is : get_or (come t ys) g (come_of own itself records t none) ≡ (g, list_of s g) = rw same (first_at g _ lt) in
      grind (arith, get_or-map) in
      let prefix : (g : ℕ) → g < length xs → IsPrefix (size_of s g) (list_of t g ++ (get_or ys g none).records) = λ g lt.
      let list = accepted.each g (omega (arith, lt, are.count)) in
      rw (← at g lt) (record { few = list.few; good = list.good }) in
      let past : (g : ℕ) → length xs ≤ g → list_of s g ≡ list_of t g = λ g le. grind (arith, get_or_past, are.count, accepted.count) in
      record {
        sizes = λ g. inl (ap (λ l. get_or l g 0) sizes);
        lists = λ g. ⊎_elim (λ lt. ((get_or ys g none).records, at g lt)) (λ le. ([], past g le ∙ sym (append-nil (list_of t g)))) (cases_lt g (length xs));
        whole = λ g whole. ⊎_elim
            (λ lt. at g lt ∙ (ap (λ l. list_of t g ++ l) (prefix_whole (size_of s g) (list_of t g) (get_or ys g none).records (prefix g lt) whole) ∙ append-nil (list_of t g)))
            (λ le. past g le)
            (cases_lt g (length xs));
      }

-- ---- how records are read

-- the list of a group that is read so
pub read_list : (read : Event → Event) (s : Streams) (g : ℕ) → list_of (read_by read s) g ≡ map read (list_of s g)
read_list read s g = map_at (map read) s.lists g []

same_lists : (lists : List (List Event)) → map (map (λ event. event)) lists ≡ lists
same_lists [] = refl
same_lists (x ∷ xs) = grind (arith, map-id x, same_lists xs)

-- records that are read as they are
pub read_unchanged : (s : Streams) → read_by (λ event. event) s ≡ s
read_unchanged s = λ k. record { sizes = s.sizes; lists = same_lists s.lists k }
