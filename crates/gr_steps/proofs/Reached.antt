-- In complete lists the grounded events are those of a list that can be found, so each event is grounded or is not.
use Rattle.gr_model.proofs.Common.{Option, ◌≡◌, ◌⊎◌, ℕ, zero, suc, ◌+◌, ◌<◌, ◌≤◌, List, [], ◌∷◌, length, Some, None, slice_get, map, refl, sym, ap, subst, inl, inr, ⊎_elim, arith, range_with_len, get_or-range_with_len, length-range_with_len, and_parts, nat_tests, slice_get-map, slice_get-get_or, slice_get_within, gets, common_steps}
use Rattle.std.specs.List.{flat_map}
use Rattle.gr_steps.specs.Types.{Event, EventId}
use Rattle.gr_model.specs.Prelude.{IsIn, HasItsReleases, AreComplete, IsEvent, Streams, event_at, is_of, list_of, trace_of, IsSettled, IsGrounded, Stage, Waits}
use Rattle.gr_model.proofs.Descent.{stage_up}
use Rattle.gr_model.proofs.Places.{slice_get-append}
use Rattle.gr_steps.proofs.DecidedWaits.{settled, waits_dec}
use Rattle.gr_steps.proofs.Deciding.{by_cases, in_dec}
use Rattle.gr_steps.proofs.EventRecords.{filter-there, group_there}
use Rattle.gr_steps.proofs.Orders.{at_behind, in_cases, in_either}

-- an event that can go and whose waits are all in a list
abbrev IsNext : Streams → List EventId → EventId → Type 0
IsNext s reached e = IsEvent s e × IsSettled s e × ((d : EventId) → Waits s e d → IsIn reached d)

-- a list of events of one stage that has every event that could come to it
pub record IsClosed (s : Streams) (n : ℕ) (reached : List EventId) : Type 0 where
  pub stage : (e : EventId) → IsIn reached e → Stage s n e
  pub closed : (e : EventId) → IsEvent s e → IsSettled s e → ((d : EventId) → Waits s e d → IsIn reached d) → IsIn reached e

-- of candidates one that comes next, and the others; or none comes next
abbrev IsTaken : Streams → List EventId → List EventId → Type 0
IsTaken s reached xs = (e : EventId) × (others : List EventId) × IsNext s reached e × (length xs ≡ suc (length others)) × ((d : EventId) → IsIn xs d → (d ≡ e) ⊎ IsIn others d)

abbrev AreStuck : Streams → List EventId → List EventId → Type 0
AreStuck s reached xs = (d : EventId) → IsIn xs d → IsNext s reached d → ⊥

module _ (s : Streams) (complete : AreComplete s) where
  next_dec : (reached : List EventId) (e : EventId) → Dec (IsNext s reached e)
  next_dec reached e =
      by_cases (waits_dec s complete (IsIn reached) (in_dec reached) e)
      (λ h. there (event_at s e) refl h.0 h.1)
      (λ none. no (λ next. none (next.1.release, next.2)))
    where
      there : (o : Option Event) → event_at s e ≡ o → HasItsReleases s e → ((d : EventId) → Waits s e d → IsIn reached d) → Dec (IsNext s reached e)
      there None none r w = no (λ next. grind (arith, none, next.0))
      there (Some x) at r w = yes ((x, at), record { release = r; instance = settled s complete e }, w)

  take_next : (reached xs : List EventId) → IsTaken s reached xs ⊎ AreStuck s reached xs
  take_next reached [] = inr (λ d h next. let c : None ≡ Some d = h.1 in cc)
  take_next reached (x ∷ xs) =
      by_cases (next_dec reached x)
      (λ next. inl (x, xs, next, refl, in_cases x xs))
      (λ not. ⊎_elim
      (λ (t : IsTaken s reached xs). inl (t.0, x ∷ t.1, t.2, ap suc t.3, λ d there. grind (arith, in_cases x xs d there, t.4 d, in_either x t.1 d)))
      (λ stuck. inr (λ d there next. grind (arith, in_cases x xs d there, not, stuck d, next)))
      (take_next reached xs))

  stuck_closed : (n : ℕ) (reached xs : List EventId) → ((e : EventId) → IsIn reached e → Stage s n e) → ((e : EventId) → IsEvent s e → IsIn reached e ⊎ IsIn xs e) → AreStuck s reached xs → IsClosed s n reached
  stuck_closed n reached xs stage cover stuck =
      record { stage = stage; closed = λ e there go waits. grind (arith, cover e there, stuck e, there, go, waits) }

  stage_more : (n : ℕ) (reached : List EventId) (x : EventId) → ((e : EventId) → IsIn reached e → Stage s n e) → IsNext s reached x → (e : EventId) → IsIn (x ∷ reached) e → Stage s (suc n) e
  stage_more n reached x stage next e there =
      ⊎_elim
      (λ (same : e ≡ x). subst (λ y. Stage s (suc n) y) (sym same) (next.0, next.1, λ d w. stage d (next.2 d w)))
      (λ was. stage_up s n e (stage e was))
      (in_cases x reached e there)

  -- the candidates are taken until none comes next
  closing : (fuel n : ℕ) (reached xs : List EventId) → length xs ≤ fuel → ((e : EventId) → IsIn reached e → Stage s n e) → ((e : EventId) → IsEvent s e → IsIn reached e ⊎ IsIn xs e) → (m : ℕ) × (all : List EventId) × IsClosed s m all
  closing zero n reached xs few stage cover =
      (n, reached, stuck_closed n reached xs stage cover (λ d h next. omega (arith, few, slice_get_within xs h.0 d h.1)))
  closing (suc fuel) n reached xs few stage cover =
      ⊎_elim
      (λ (t : IsTaken s reached xs). closing fuel (suc n) (t.0 ∷ reached) t.1 (omega (arith, few, t.3)) (stage_more n reached t.0 stage t.2)
      (λ e there. grind (arith, cover e there, t.4 e, in_either t.0 reached e)))
      (λ (stuck : AreStuck s reached xs). (n, reached, stuck_closed n reached xs stage cover stuck))
      (take_next reached xs)

-- ---- all events are candidates

in_flat_map : {X Y : Type 0} (f : X → List Y) (xs : List X) (x : X) (y : Y) → (p : ℕ) × (slice_get xs p ≡ Some x) → (q : ℕ) × (slice_get (f x) q ≡ Some y) → (k : ℕ) × (slice_get (flat_map f xs) k ≡ Some y)
in_flat_map f [] x y (p, at) there = cc
in_flat_map f (z ∷ xs) x y (zero, at) (q, there) = (q, slice_get-append (f z) (flat_map f xs) q y (grind (arith, at, there)))
in_flat_map f (z ∷ xs) x y (suc p, at) there =
    let h = in_flat_map f xs x y (p, at) there in (length (f z) + h.0, at_behind (f z) (flat_map f xs) h.0 y h.1)

in_range : (n k : ℕ) → k < n → slice_get (range_with_len 0 n) k ≡ Some k
in_range n k lt = grind (arith, length-range_with_len, slice_get-get_or, get_or-range_with_len, common_steps, gets)

-- of an item the places of its trace, of a group those of the items of its records, and of all groups
item_candidates : Streams → ℕ → ℕ → List EventId
item_candidates s g i = map (λ n. record { at = record { group = g; item = i }; index = n }) (range_with_len 0 (length (trace_of s (record { group = g; item = i }))))

candidates : Streams → List EventId
candidates s = flat_map (λ g. flat_map (λ x. item_candidates s g x.item) (list_of s g)) (range_with_len 0 (length s.lists))

event_is_candidate : (s : Streams) (e : EventId) → IsEvent s e → IsIn (candidates s) e
unfolding candidates item_candidates
event_is_candidate s e there =
    let g = e.at.group in
    let listed = filter-there (is_of e.at.item) (list_of s g) e.index there.0 there.1 in
    let within = slice_get_within (trace_of s e.at) e.index there.0 there.1 in
    let last : slice_get (item_candidates s g there.0.item) e.index ≡ Some e = grind (arith, nat_tests, and_parts, listed.2, slice_get-map, in_range, within) in
    in_flat_map (λ g. flat_map (λ x. item_candidates s g x.item) (list_of s g)) (range_with_len 0 (length s.lists)) g e (g, in_range (length s.lists) g (group_there s e there))
    (in_flat_map (λ x. item_candidates s g x.item) (list_of s g) there.0 e (listed.0, listed.1) (e.index, last))

-- ---- the grounded events

pub reached : (s : Streams) → AreComplete s → (n : ℕ) × (all : List EventId) × IsClosed s n all
reached s complete =
    closing s complete (length (candidates s)) 0 [] (candidates s) (omega arith) (λ e h. absurd (let c : None ≡ Some e = h.1 in cc)) (λ e there. inr (event_is_candidate s e there))

pub stage_in : (s : Streams) (n : ℕ) (all : List EventId) → IsClosed s n all → (m : ℕ) (e : EventId) → Stage s m e → IsIn all e
stage_in s n all c zero e h = absurd h
stage_in s n all c (suc m) e h = c.closed e h.0 h.1 (λ d w. stage_in s n all c m d (h.2 d w))

pub grounded_dec : (s : Streams) → AreComplete s → (e : EventId) → IsGrounded s e ⊎ ¬ IsGrounded s e
grounded_dec s complete e =
    let all = reached s complete in grind (arith, in_dec all.1 e, all.2.stage e, stage_in s all.0 all.1 all.2)
