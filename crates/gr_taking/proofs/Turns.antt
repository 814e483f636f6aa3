-- The first of the records that are to come of a group may be taken, and was.
use Rattle.gr_model.proofs.Common.{◌≡◌, ℕ, ◌<◌, List, ◌∷◌, length, sym, ap, ◌∙◌, subst, append_assoc, set-set, get_or-set_same, arith, length-append, length-set, get_or_past}
use Rattle.gr_order.specs.Types.{Event, MOST_RECORDS}
use Rattle.gr_model.specs.Prelude.{Streams, list_of, size_of}
use Rattle.gr_model.proofs.StreamPrefixes.{next_ok, next_room, next_unended}
use Rattle.gr_lanes.specs.Takes.{CanTake, IsEventButItem, with_record}
use Rattle.gr_taking.specs.Sources.{AreTakenFrom, MayTake}

-- the first of the records to come was taken
one_taken_from : (s t new : Streams) (g : ℕ) (old rest : List Event) (e : Event) → g < length s.lists → AreTakenFrom s g old t (e ∷ rest) → new ≡ with_record t g e → AreTakenFrom s g old new rest
one_taken_from s t new g old rest e there from is = grind (arith, append_assoc, get_or-set_same, set-set)

-- the group may still have what was taken of it and is to come
still_may : (s t : Streams) (g : ℕ) (old rest : List Event) → MayTake s g old → AreTakenFrom s g old t rest → MayTake t g rest
still_may s t g old rest may from = grind (arith, append_assoc, get_or-set_same, length-set)

-- of a group some records were taken, and then e is the next, before the rest; n is the group
module _ (s t : Streams) (g n : ℕ) (old here rest : List Event) (e : Event) (same : n ≡ g) (may : MayTake s g old) (from : AreTakenFrom s g old t here) (is : here ≡ e ∷ rest) where
  next_from : AreTakenFrom s g old t (e ∷ rest)
  next_from = subst (AreTakenFrom s g old t) is from

  next_may : MayTake t n (e ∷ rest)
  next_may = subst (λ (m : ℕ). MayTake t m (e ∷ rest)) (sym same) (still_may s t g old (e ∷ rest) may next_from)

  -- fewer are to come than at first
  pub fewer_come : length rest < length old
  fewer_come = omega (arith, ap length next_from.1, length-append next_from.0 (e ∷ rest))

  -- it was taken too
  pub next_taken : (new : Streams) → new ≡ with_record t n e → AreTakenFrom s g old new rest
  next_taken new taken = one_taken_from s t new g old rest e may.there next_from (taken ∙ ap (λ (m : ℕ). with_record t m e) same)

  -- it may be taken
  pub next_can : CanTake t n e
  next_can =
      let ok = next_ok (size_of t n) (list_of t n) e rest next_may.prefix in
      let unended = next_unended (size_of t n) (list_of t n) e rest next_may.prefix in
      grind (arith, get_or_past)

  -- it has no fault
  pub next_good : IsEventButItem e
  next_good = let good = next_ok (size_of t n) (list_of t n) e rest next_may.prefix in (good.1, good.2)

  -- there is room for it
  pub room_for_next : length (list_of t n) < MOST_RECORDS
  room_for_next = next_room (size_of t n) (list_of t n) e rest next_may.prefix
