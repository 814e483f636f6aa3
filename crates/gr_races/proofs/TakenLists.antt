-- What lanes have taken of a launch, list after list.
use Rattle.gr_model.proofs.Common.{◌≡◌, ℕ, ◌+◌, ◌<◌, ◌≤◌, List, [], ◌∷◌, ◌++◌, length, get_or, set-set, take, refl, sym, ◌∙◌, arith, ext_get_or, get_or-set_other, get_or-set_same, length-map, length-set, take_more}
use Rattle.gr_model.specs.declared.event.Event.{Event}
use Rattle.gr_model.specs.Prelude.{Streams, list_of}
use Rattle.gr_lanes.specs.Remembered.{Remembered, remembering}
use Rattle.gr_lanes.specs.Takes.{nothing_taken, with_record}
use Rattle.gr_taking.specs.Taken.{with_list}
use Rattle.gr_taking.proofs.TakenLemmas.{empty_at}

-- ---- one list

pub record_taken : (r before new : Remembered) (g i : ℕ) (list : List Event) (d : Event) → g < length r.streams.lists → i < length list → before ≡ remembering r (with_list r.streams g (take i list)) → new ≡ remembering before (with_record before.streams g (get_or list i d)) → new ≡ remembering r (with_list r.streams g (take (i + 1) list))
record_taken r before new g i list d there lt so_far is =
    let lists = r.streams.lists in
    rw is (rw so_far (rw (get_or-set_same lists g (take i list) [] there) (rw (set-set lists g (take i list) (take i list ++ get_or list i d ∷ [])) (rw (take_more list i d lt) refl))))

-- ---- all lists

-- the lists below a bound were taken, and of the others nothing
pub record TakenBelow (s : Streams) (bound : ℕ) (t : Streams) : Type 0 where
  pub sizes : t.sizes ≡ s.sizes
  pub count : length t.lists ≡ length s.lists
  pub before : (g : ℕ) → g < bound → list_of t g ≡ list_of s g
  pub behind : (g : ℕ) → bound ≤ g → list_of t g ≡ []

pub lanes_are_new : (s t : Streams) (sizes : List ℕ) → length s.lists ≡ length s.sizes → sizes ≡ s.sizes → t ≡ nothing_taken sizes → TakenBelow s 0 t
lanes_are_new s t sizes count same is = rw is (rw same (record {
  sizes = refl;
  count = length-map s.sizes (λ n. []) ∙ sym count;
  before = λ g lt. absurd (omega arith);
  behind = λ g ge. empty_at s.sizes g;
}))

pub list_taken : (s : Streams) (g : ℕ) (before new : Streams) (list : List Event) → g < length s.lists → TakenBelow s g before → list ≡ list_of s g → new ≡ with_list before g list → TakenBelow s (g + 1) new
list_taken s g before new list there h same is =
    let within : g < length before.lists = omega (arith, h.count) in
    rw is (rw same (record {
      sizes = h.sizes;
      count = length-set before.lists g (list_of s g) ∙ h.count;
      before = λ k lt. grind (arith, get_or-set_same, get_or-set_other, h.before k);
      behind = λ k ge. grind (arith, get_or-set_other, h.behind k);
    }))

pub all_are_taken : (s : Streams) (bound : ℕ) (t : Streams) → length s.lists ≤ bound → TakenBelow s bound t → t ≡ s
all_are_taken s bound t all h =
    let lists : t.lists ≡ s.lists = ext_get_or [] t.lists s.lists h.count (λ g lt. h.before g (omega (arith, h.count, all))) in
    λ k. record { sizes = h.sizes k; lists = lists k }
