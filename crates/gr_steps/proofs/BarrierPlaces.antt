-- The places of the elements that pass a test, and so the barriers of an item: each has one number, and a later one a greater.
use Rattle.gr_model.proofs.Common.{◌≡◌, ℕ, suc, ◌+◌, ◌<◌, Bool, true, false, cond, List, [], ◌∷◌, Some, None, slice_get, refl, sym, ◌∙◌, arith}
use Rattle.gr_steps.specs.Types.{Event, EventId}
use Rattle.gr_model.specs.Prelude.{IsConvergent, IsDivergent, StandsIn, Together, is_barrier, mark_of, Mark, Streams, event_at, places_from, size_of, trace_of}
use Rattle.gr_model.proofs.GrowthLaws.{not_both}
use Rattle.gr_model.proofs.Places.{filter_map-place, places_from-there}
use Rattle.gr_model.proofs.Cuts.{same_event}
use Rattle.gr_steps.proofs.Deciding.{by_cases}

-- ---- places

-- an element that passes the test has a number
pub places_from-find : {X : Type 0} (test : X → Bool) (i : ℕ) (xs : List X) (j : ℕ) (x : X) → slice_get xs j ≡ Some x → test x ≡ true → (k : ℕ) × (slice_get (places_from test i xs) k ≡ Some (i + j))
places_from-find test i (y ∷ xs) (suc j) x at t =
    let rest = places_from test (suc i) xs in
    let found = places_from-find test (suc i) xs j x at t in
    let there : slice_get rest found.0 ≡ Some (i + suc j) = grind (arith, found.1) in
    elim (test y) as (λ b. (k : ℕ) × (slice_get (cond b (i ∷ rest) rest) k ≡ Some (i + suc j))) [
      | true ↦ (suc found.0, there)
      | false ↦ (found.0, there)
    ]
places_from-find test i xs j x at t = grind arith

-- an earlier number has an earlier place
pub places_from-ordered : {X : Type 0} (test : X → Bool) (i : ℕ) (xs : List X) (k l m n : ℕ) → k < l → slice_get (places_from test i xs) k ≡ Some m → slice_get (places_from test i xs) l ≡ Some n → m < n
places_from-ordered test i [] k l m n lt a b = cc
places_from-ordered {X} test i (x ∷ xs) k l m n lt a b = grind (arith, places_from-there, places_from-ordered test (suc i) xs)

-- so a place has one number
pub places_from-once : {X : Type 0} (test : X → Bool) (i : ℕ) (xs : List X) (n k l : ℕ) → slice_get (places_from test i xs) k ≡ Some n → slice_get (places_from test i xs) l ≡ Some n → k ≡ l
places_from-once test i xs n k l a b = grind (arith, places_from-ordered test i xs k l n n, places_from-ordered test i xs l k n n)

-- ---- barriers

-- an event of an instance is there, and is a barrier
pub barrier_there : (s : Streams) (e : EventId) (g k : ℕ) → StandsIn s e g k → (x : Event) × (event_at s e ≡ Some x) × (is_barrier x ≡ true)
barrier_there s e g k stands = grind (arith, places_from-there)

-- an event is in an instance or in none
pub standing : (s : Streams) (e : EventId) → Dec ((g k : ℕ) × StandsIn s e g k)
standing s e =
    elim (event_at s e) as (λ o. (event_at s e ≡ o) → Dec ((g k : ℕ) × StandsIn s e g k)) [
      | None ↦ λ none. grind (arith, none, barrier_there s e)
      | Some x ↦ λ at.
          let found = places_from-find is_barrier 0 (trace_of s e.at) e.index x at in
          let is_there : Dec ((is_barrier x ≡ true) × (e.at.item < size_of s e.at.group)) = grind arith in
          by_cases is_there (λ t. yes (e.at.group, (found t.0).0, record { group = refl; item = t.1; place = grind (arith, found) }))
          (λ other. no (λ h. grind (arith, other, at, h.2, barrier_there s e h.0 h.1 h.2)))
    ] refl

-- each item of the group has a barrier of a convergent instance
pub barrier_of : (s : Streams) (g k : ℕ) (a : Mark) → IsConvergent s g k a → (i : ℕ) → i < size_of s g → (n : ℕ) × StandsIn s (record { at = record { group = g; item = i }; index = n }) g k
barrier_of s g k a c i within =
    let found = filter_map-place mark_of 0 (trace_of s (record { group = g; item = i })) k a (c.1 i within) in
    (found.0, record { group = refl; item = within; place = found.1 })

pub same_instance : (s : Streams) (e : EventId) (g k h l : ℕ) → StandsIn s e g k → StandsIn s e h l → (g ≡ h) × (k ≡ l)
same_instance s e g k h l a b = (sym a.group ∙ b.group, places_from-once is_barrier 0 (trace_of s e.at) e.index k l a.place b.place)

-- two barriers of an instance are one where they are of one item
pub stands_same : (s : Streams) (b c : EventId) (g k : ℕ) → StandsIn s b g k → StandsIn s c g k → b.at.item ≡ c.at.item → b ≡ c
stands_same s b c g k hb hc item = grind (arith, same_event)

-- of an item's barriers, that of an earlier instance is earlier
pub stands_before : (s : Streams) (b c : EventId) (g k l : ℕ) → StandsIn s b g k → StandsIn s c g l → b.at ≡ c.at → k < l → b.index < c.index
stands_before s b c g k l hb hc at lt = grind (arith, places_from-ordered)

-- a barrier of an instance is one of each that it is
pub moved : (s : Streams) (b : EventId) (g k h l : ℕ) → g ≡ h → k ≡ l → StandsIn s b g k → StandsIn s b h l
moved s b g k h l group number stands = grind arith

-- what a barrier of an instance meets is in that instance
pub meets_in : (s : Streams) (g k : ℕ) (a : Mark) (e b : EventId) → StandsIn s e g k → Together s a e b → StandsIn s b g k
meets_in s g k a e b stands met = grind (arith, same_instance s e met.group met.instance g k met.first stands, met.second)

-- a barrier of a divergent instance meets nobody
pub meets_none : (s : Streams) (g k : ℕ) (a : Mark) (e b : EventId) → StandsIn s e g k → IsDivergent s g k → Together s a e b → ⊥
meets_none s g k a e b stands divergent met = grind (arith, same_instance, not_both s g k a)
