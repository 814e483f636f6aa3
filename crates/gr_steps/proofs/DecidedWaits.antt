-- In complete lists every instance is settled, and it can be decided whether an event has its releases and whether all that it waits for is of a set.
use Rattle.gr_model.proofs.Common.{◌≡◌, ◌⊎◌, ℕ, ◌<◌, ◌≤◌, Some, None, refl, sym, inl, inr, ⊎_elim, arith, cases_lt, get_or_past}
use Rattle.gr_steps.specs.Types.{EventId, Name}
use Rattle.gr_model.specs.Prelude.{IsConvergent, IsDivergent, StandsIn, Together, arrivals, mark_of, Mark, HasItsReleases, HasName, MatchesBy, names_at, release_place, AreComplete, Streams, size_of, trace_of, word_at, IsPrevious, Waits, for_arrival, for_meeting, for_previous, for_release}
use Rattle.gr_model.proofs.Places.{place-filter_map}
use Rattle.gr_model.proofs.Cuts.{same_event}
use Rattle.gr_steps.proofs.BarrierPlaces.{barrier_of, standing, stands_same, meets_in, meets_none}
use Rattle.gr_steps.proofs.Deciding.{IsLeastWithout, all_below, all_dec, by_cases, dec_both, dec_map, option_dec, word_dec, dec_four}
use Rattle.gr_steps.proofs.EventRecords.{one_release}
use Rattle.gr_steps.proofs.Orders.{previous_of}

-- ---- instances

-- an instance of a complete list is convergent or divergent, where an item has come to it
pub settled : (s : Streams) → AreComplete s → (e : EventId) (g k : ℕ) → StandsIn s e g k → ((a : Mark) × IsConvergent s g k a) ⊎ IsDivergent s g k
settled s complete e g k stands =
    ⊎_elim
    (λ all. inl (come.0, (omega (arith, stands.item), all)))
    (λ (other : (i : ℕ) × IsLeastWithout (λ i. arrivals s g k i ≡ Some come.0) (size_of s g) i). inr (differs other.0 other.1.0 other.1.1))
    (all_below (λ i. arrivals s g k i ≡ Some come.0) (size_of s g) (λ i lt. option_dec (λ a b. grind arith) (arrivals s g k i) (Some come.0)))
  where
    come : (a : Mark) × (arrivals s g k e.at.item ≡ Some a)
    come = place-filter_map mark_of 0 (trace_of s (record { group = g; item = e.at.item })) k e.index (grind (arith, stands.group, stands.place))

    differs : (i : ℕ) → i < size_of s g → (arrivals s g k i ≡ Some come.0 → ⊥) → IsDivergent s g k
    differs i lt other = grind (arith, get_or_past s.sizes g 0, come)

-- ---- what is waited for

-- whether an event has the release of one of its names, and this is of a set
release_dec : (s : Streams) (Q : EventId → Type 0) → ((d : EventId) → Dec (Q d)) → (e : EventId) (n : Name) → HasName s e n → Dec ((d : EventId) × MatchesBy s n e d × Q d)
release_dec s Q decide e n named =
    elim (release_place s n) as (λ o. (release_place s n ≡ o) → Dec ((d : EventId) × MatchesBy s n e d × Q d)) [
      | None ↦ λ absent. no (λ r. grind (arith, absent, r.1.place))
      | Some k ↦ λ at.
          let there : EventId = record { at = n.at; index = k } in
          dec_map
          (λ h. (there, record { named = named; item = refl; place = at; word = h.0 }, h.1))
          (λ r. grind (arith, r.1, r.2, at, same_event r.0 there))
          (dec_both (option_dec word_dec (word_at s e) (word_at s there)) (decide there))
    ] refl

-- the event before another, if there is one, has what can be decided of each event
pub previous_dec : (Q : EventId → Type 0) → ((d : EventId) → Dec (Q d)) → (e : EventId) → Dec ((d : EventId) → IsPrevious d e → Q d)
previous_dec Q decide e =
    ⊎_elim
    (λ (some : 0 < e.index).
    let p = previous_of e 0 some in dec_map (λ q c is. grind (arith, q, is, p.1, same_event p.0 c)) (λ all. all p.0 p.1) (decide p.0))
    (λ (none : e.index ≤ 0). yes (λ d p. grind (arith, p.next)))
    (cases_lt 0 e.index)

-- an item's barrier of an instance is of a set
abbrev IsOfItem : Streams → (EventId → Type 0) → ℕ → ℕ → ℕ → Type 0
IsOfItem s Q g k i = (b : EventId) → b.at.item ≡ i → StandsIn s b g k → Q b

module _ (s : Streams) (complete : AreComplete s) where
  -- each barrier of an event's convergent instance has what can be decided of each event
  instance_dec : (Q : EventId → Type 0) → ((b : EventId) → Dec (Q b)) → (c : EventId) → Dec ((a : Mark) (b : EventId) → Together s a c b → Q b)
  instance_dec Q decide c =
      by_cases (standing s c)
      (λ h. ⊎_elim (λ m. convergent h.0 h.1 h.2 m.0 m.1) (λ d. yes (λ a b met. absurd (meets_none s h.0 h.1 a c b h.2 d met))) (settled s complete c h.0 h.1 h.2))
      (λ none. yes (λ a b met. absurd (none (met.group, met.instance, met.first))))
    where
      of_item : (g k : ℕ) (a : Mark) → IsConvergent s g k a → (i : ℕ) → i < size_of s g → Dec (IsOfItem s Q g k i)
      of_item g k a m i lt =
          let there = barrier_of s g k a m i lt in
          let b : EventId = record { at = record { group = g; item = i }; index = there.0 } in
          dec_map (λ q c item stands. grind (arith, q, stands_same s b c g k there.1 stands (sym item))) (λ all. all b refl there.1) (decide b)

      convergent : (g k : ℕ) → StandsIn s c g k → (a : Mark) → IsConvergent s g k a → Dec ((a : Mark) (b : EventId) → Together s a c b → Q b)
      convergent g k stands a m =
          ⊎_elim
          (λ all. yes (λ n b met. let here = meets_in s g k n c b stands met in all b.at.item here.item b refl here))
          (λ (h : (i : ℕ) × IsLeastWithout (IsOfItem s Q g k) (size_of s g) i). no (λ all. h.1.1 (λ b item other. all a b (record { group = g; instance = k; convergent = m; first = stands; second = other }))))
          (all_below (IsOfItem s Q g k) (size_of s g) (of_item g k a m))

  module _ (In : EventId → Type 0) (in_dec : (d : EventId) → Dec (In d)) (e : EventId) where
    -- all that an event waits for, by its four clauses
    all_of : ((d : EventId) → IsPrevious d e → In d) → ((n : Name) → HasName s e n → (d : EventId) × MatchesBy s n e d × In d) → ((a : Mark) (b : EventId) → Together s a e b → (d : EventId) → IsPrevious d b → In d) → ((c : EventId) → IsPrevious c e → (a : Mark) (d : EventId) → Together s a c d → In d) → (d : EventId) → Waits s e d → In d
    all_of previous release arrival meeting d (for_previous p) = previous d p
    all_of previous release arrival meeting d (for_release m) =
        let r = release m.name m.by.named in grind (arith, r, one_release s m.name e r.0 d r.1 m.by)
    all_of previous release arrival meeting d (for_arrival a b met p) = arrival a b met d p
    all_of previous release arrival meeting d (for_meeting a c p met) = meeting c p a d met

    pub waits_dec : Dec (HasItsReleases s e × ((d : EventId) → Waits s e d → In d))
    waits_dec =
        dec_map
        (λ h. (λ n named. let r = h.1 n named in (r.0, r.1), all_of h.0 h.1 h.2 h.3))
        (λ h. (
          λ d p. h.1 d (for_previous p),
          λ n named. let r = h.0 n named in (r.0, r.1, h.1 r.0 (for_release (record { name = n; by = r.1 }))),
          λ a b met d p. h.1 d (for_arrival a b met p),
          λ c p a d met. h.1 d (for_meeting a c p met),
        ))
        (dec_four
        (previous_dec In in_dec e)
        (all_dec (λ n. (d : EventId) × MatchesBy s n e d × In d) (names_at s e) (release_dec s In in_dec e))
        (instance_dec (λ b. (d : EventId) → IsPrevious d b → In d) (previous_dec In in_dec) e)
        (previous_dec (λ c. (a : Mark) (d : EventId) → Together s a c d → In d) (instance_dec In in_dec) e))
