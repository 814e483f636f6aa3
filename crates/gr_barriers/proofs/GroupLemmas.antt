-- One group's barriers: what a mark more changes.
use Rattle.gr_model.proofs.Common.{◌≡◌, ℕ, ◌<◌, Bool, List, [], ◌∷◌, ◌++◌, map, length, get_or, set, Vec, sym, ◌∙◌, ap, arith, get_or-set_at, length_push, get_or-map, get_or-set_other, map-set, length-map, set-get_or}
use Rattle.gr_model.specs.declared.limits.TheConstants.{MOST_RECORDS}
use Rattle.gr_model.specs.Prelude.{Mark}
use Rattle.gr_barriers.specs.Arrived.{GroupMarks, marks_at, AreFew}

abbrev items : {Z : Type 0} → Vec Mark Z → List Mark
items v = v.items

-- lists in vectors, of which one is read
pub read_items : {Z : Type 0} (vs : List (Vec Mark Z)) (i : ℕ) → i < length vs → (x : Vec Mark Z) → x ≡ get_or vs i x → x.items ≡ get_or (map items vs) i []
read_items vs i there x reads = ap items reads ∙ sym (get_or-map items vs i x [] there)

-- the same of an item of the group that these are, and another is written in its place
module _ {Z : Type 0} (vs : List (Vec Mark Z)) {i : ℕ} {x : Vec Mark Z} (reads : x ≡ get_or vs i x) {ended : Bool} {t : GroupMarks} (is : record { marks = map items vs; ended = ended } ≡ t) (inside : i < length t.marks) (y : Vec Mark Z) where
  read_here : x.items ≡ get_or (map items vs) i []
  read_here = read_items vs i (grind (arith, length-map vs items)) x reads

  pub set_same : y.items ≡ x.items → map items (set vs i y) ≡ map items vs
  set_same same = map-set items vs i y ∙ ap (set (map items vs) i) (same ∙ read_here) ∙ set-get_or (map items vs) i []

  module _ (a : Mark) (more : y.items ≡ x.items ++ a ∷ []) where
    pub set_more : map items (set vs i y) ≡ set (map items vs) i (get_or (map items vs) i [] ++ a ∷ [])
    set_more = map-set items vs i y ∙ ap (set (map items vs) i) (more ∙ ap (λ (ys : List Mark). ys ++ a ∷ []) read_here)

    pub more_few : AreFew (map items vs) → length (marks_at t i) < MOST_RECORDS → AreFew (map items (set vs i y))
    more_few few room q = grind (arith, set_more, get_or-set_at, get_or-set_other, few q, length_push (get_or (map items vs) i []) a)
