-- Where no acquire is unmatched in complete lists, every event is grounded.
-- Of each item the first event that is not would be a barrier of a convergent instance. One with the least number would have met: each other item of its group is at a barrier of the same instance, or has passed what is before it.
use Rattle.gr_model.proofs.Common.{◌≡◌, ℕ, zero, suc, ◌<◌, List, refl, sym, subst, ⊎_elim, arith, slice_get_within}
use Rattle.gr_steps.specs.Types.{EventId, ItemId, Name}
use Rattle.gr_model.specs.Prelude.{StandsIn, Together, Mark, IsIn, HasName, IsUnmatchedAcquire, AreComplete, IsEvent, Streams, trace_of, IsGrounded, IsPrevious, Stage, Waits, for_arrival, for_meeting, for_previous, for_release}
use Rattle.gr_model.proofs.Descent.{below_in_item, stage_descends}
use Rattle.gr_steps.proofs.BarrierPlaces.{barrier_there, moved, standing, stands_before, stands_same, meets_in, meets_none}
use Rattle.gr_steps.proofs.DecidedWaits.{settled}
use Rattle.gr_steps.proofs.Deciding.{IsLeastWithout, all_below, by_cases, in_dec}
use Rattle.gr_steps.proofs.Orders.{there_is, previous_of}
use Rattle.gr_steps.proofs.Reached.{IsClosed, reached, stage_in}
use Rattle.gr_model.proofs.Cuts.{same_event}

-- the places of an item
abbrev event_of : ItemId → ℕ → EventId
event_of i n = record { at = i; index = n }

-- with an event, the earlier ones of its item are there
earlier_event : (s : Streams) (e : EventId) → IsEvent s e → (n : ℕ) → n < e.index → IsEvent s (event_of e.at n)
earlier_event s e there n lt =
    there_is (trace_of s e.at) n (omega (arith, lt, slice_get_within (trace_of s e.at) e.index there.0 there.1))

module _ (s : Streams) (complete : AreComplete s) (matched : (e : EventId) → ¬ IsUnmatchedAcquire s e) (n : ℕ) (all : List EventId) (is : IsClosed s n all) where
  -- all before an event in its item are grounded
  abbrev IsPassed : EventId → Type 0
  IsPassed e = (i : ℕ) → i < e.index → IsIn all (event_of e.at i)

  -- an event that is not grounded, though all before it are, names nothing
  no_name : (e : EventId) → IsEvent s e → IsPassed e → (IsIn all e → ⊥) → (m : Name) → HasName s e m → ⊥
  no_name e there passed away m named =
      let held : ¬ IsGrounded s e = λ g. away (stage_in s n all is g.0 e g.1) in
      let before : (d : EventId) → d.at ≡ e.at → d.index < e.index → IsGrounded s d = λ d item lt.
      (n, is.stage d (subst (λ i. IsIn all (event_of i d.index)) (sym item) (passed d.index lt))) in
      matched e (search (there, named, held, before))

  -- the event before one is among those before it
  previous_in : (e d : EventId) → IsPassed e → IsPrevious d e → IsIn all d
  previous_in e d passed p = grind (arith, p, passed d.index)

  -- an event is grounded where all before it are, and, unless it names something, what its instance has it wait for
  comes : (e : EventId) → IsEvent s e → IsPassed e → ((a : Mark) (b d : EventId) → Together s a e b → IsPrevious d b → IsIn all d) → ((a : Mark) (c d : EventId) → IsPrevious c e → Together s a c d → IsIn all d) → IsIn all e
  comes e there passed arrival meeting =
      by_cases (in_dec all e) (λ h. h)
      (λ away. is.closed e there (record { release = λ m named. absurd (no_name e there passed away m named); instance = settled s complete e }) (waits away))
    where
      waits : (IsIn all e → ⊥) → (d : EventId) → Waits s e d → IsIn all d
      waits away d (for_previous p) = previous_in e d passed p
      waits away d (for_release m) = absurd (no_name e there passed away m.name m.by.named)
      waits away d (for_arrival a b met p) = arrival a b d met p
      waits away d (for_meeting a c p met) = meeting a c d p met

  -- the barriers of an instance are together
  joined : (a m : Mark) (c d b : EventId) → Together s a c d → Together s m d b → Together s a c b
  joined a m c d b first second = search (first, meets_in s first.group first.instance m d b first.second second)

  -- with a barrier that is grounded, each that it meets is
  met_in : (k : ℕ) (a : Mark) (c d : EventId) → Stage s k c → Together s a c d → IsIn all d
  met_in zero a c d h met = absurd h
  met_in (suc k) a c d h met =
      comes d (let there = barrier_there s d met.group met.instance met.second in (there.0, there.1)) passed
      (λ m b x other p. stage_in s n all is k x (h.2 x (for_arrival a b (joined a m c d b met other) p)))
      (λ m b x p other. met_in k m b x (h.2 b (for_arrival a d met p)) other)
    where
      passed : IsPassed d
      passed i lt =
          let p = previous_of d i lt in
          let stage = h.2 p.0 (for_arrival a d met p.1) in
          grind (arith, stage, p, same_event (event_of d.at i) p.0, below_in_item s (Stage s) (stage_descends s) k (event_of d.at i) p.0, stage_in s n all is)

  -- so an event is grounded where all before it are, and all before the barriers that it meets
  comes_with : (e : EventId) → IsEvent s e → IsPassed e → ((a : Mark) (b d : EventId) → Together s a e b → IsPrevious d b → IsIn all d) → IsIn all e
  comes_with e there passed arrival = comes e there passed arrival (λ a c d p met. met_in n a c d (is.stage c (previous_in e c passed p)) met)

  -- the first event of an item that is not grounded is a barrier of a convergent instance
  first_held : (e : EventId) → IsEvent s e → IsPassed e → (IsIn all e → ⊥) → (a : Mark) × Together s a e e
  first_held e there passed away =
      by_cases (standing s e)
      (λ h. ⊎_elim
      (λ c. (c.0, record { group = h.0; instance = h.1; convergent = c.1; first = h.2; second = h.2 }))
      (λ d. absurd (away (comes_with e there passed (λ a b x met p. absurd (meets_none s h.0 h.1 a e b h.2 d met)))))
      (settled s complete e h.0 h.1 h.2))
      (λ none. absurd (away (comes_with e there passed (λ a b d met p. grind (arith, none, met.first)))))

  -- of two barriers of an item the earlier is of an earlier instance
  earlier_instance : (b f : EventId) (g k h l : ℕ) → b.at ≡ f.at → StandsIn s b g k → StandsIn s f h l → f.index < b.index → l < k
  earlier_instance b f g k h l at hb hf lt =
      grind (arith, lt, at, hb, hf, stands_same s b f g k hb, moved s f h l g, stands_before s b f g k l hb)

  -- no item's first event that is not grounded is in a convergent instance, by induction on the number of the instance: each item of the group has passed what is before its barrier, or is held at one of an earlier instance
  none_held : (bound : ℕ) (a : Mark) (e : EventId) (at : Together s a e e) → at.instance < bound → IsPassed e → (IsIn all e → ⊥) → ⊥
  none_held zero a e at lt passed away = omega arith
  none_held (suc bound) a e at lt passed away =
      away (comes_with e (let there = barrier_there s e at.group at.instance at.first in (there.0, there.1)) passed (λ m b d met p.
      let other = meets_in s at.group at.instance m e b at.first met in
      let there = barrier_there s b at.group at.instance other in
      ⊎_elim
      (λ (passed : IsPassed b). previous_in b d passed p)
      (λ (h : (i : ℕ) × IsLeastWithout (λ j. IsIn all (event_of b.at j)) b.index i).
      let f : EventId = event_of b.at h.0 in
      let held = first_held f (earlier_event s b (there.0, there.1) h.0 h.1.0) h.1.2 h.1.1 in
      let earlier = earlier_instance b f at.group at.instance held.1.group held.1.instance refl other held.1.first h.1.0 in
      absurd (none_held bound held.0 f held.1 (omega (arith, earlier, lt)) h.1.2 h.1.1))
      (all_below (λ j. IsIn all (event_of b.at j)) b.index (λ i lt. in_dec all (event_of b.at i)))))

  every_event : (m : ℕ) (e : EventId) → e.index < m → IsEvent s e → IsIn all e
  every_event zero e lt there = absurd (omega arith)
  every_event (suc m) e lt there =
      let passed : IsPassed e = λ i below. every_event m (event_of e.at i) (omega arith) (earlier_event s e there i below) in
      by_cases (in_dec all e) (λ h. h)
      (λ away. let held = first_held e there passed away in absurd (none_held (suc held.1.instance) held.0 e held.1 (omega arith) passed away))

pub all_is_grounded : (s : Streams) → AreComplete s → ((e : EventId) → ¬ IsUnmatchedAcquire s e) → (e : EventId) → IsEvent s e → IsGrounded s e
all_is_grounded s complete matched e there =
    let all = reached s complete in (all.0, all.2.stage e (every_event s complete matched all.0 all.1 all.2 (suc e.index) e (omega arith) there))
