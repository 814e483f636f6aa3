-- What is to come of several streams, taken as their groups take turns.
use Rattle.gr_model.proofs.Common.{[], ◌≡◌, ◌≢◌, ◌⊎◌, ℕ, ◌+◌, ◌<◌, ◌≤◌, Bool, List, length, get_or, set, IsTrue, ap, arith, append_assoc, IsFalse, sum_by, cases_eq, ext_get_or, get_or-map, get_or-set_other, get_or-set_same, length-append, length-map, length-set, sum_by-set}
use Rattle.gr_model.specs.declared.event.Event.{Event}
use Rattle.gr_model.specs.Prelude.{Streams}
use Rattle.gr_taking.specs.Sources.{AreTakenFrom, MayCome, MayTake, come_from, come_of}

module _ {X Y : Type 0} (header : X → Y) (group : Y → ℕ) (coming : X → List Event) where
  -- the group of a stream
  abbrev group_in : X → ℕ
  group_in x = group (header x)

  abbrev come : Streams → List X → List (Y × List Event)
  come t xs = come_from header group coming t xs

  abbrev come_one : Streams → X → Y × List Event
  come_one t x = come_of header group coming t x

  -- ---- a stream at its place

  module _ (t : Streams) (xs : List X) (k : ℕ) (d : X) (within : k < length xs) (may : MayCome group t.sizes (come t xs)) where
    abbrev stream : X
    stream = get_or xs k d

    -- what has come of the stream at a place
    come_at : (j : ℕ) (f : Y × List Event) → j < length xs → get_or (come t xs) j f ≡ come_one t (get_or xs j d)
    come_at j f lt = get_or-map (come_one t) xs j d f lt

    -- the group may have all that was taken and is to come
    stream_may : length t.lists ≡ length t.sizes → MayTake t (group_in stream) (coming stream)
    stream_may count = grind (arith, may.there k (come_one t stream), may.prefixes k (come_one t stream), length-map, come_at k)

    -- streams at two places are of two groups
    groups_differ : (i j : ℕ) → i < j → j < length xs → group_in (get_or xs i d) ≢ group_in (get_or xs j d)
    groups_differ i j lt in_list same = grind (arith, may.differ i j (come_one t d), length-map, come_at)

    -- streams at other places are of other groups
    other_group : (j : ℕ) → j ≢ k → j < length xs → group_in (get_or xs j d) ≢ group_in stream
    other_group j other lt same = grind (arith, groups_differ j k, groups_differ k j)

    -- some of its records were taken, and n is what it is now
    module _ (new : Streams) (n : X) (there : group_in stream < length t.lists) (from : AreTakenFrom t (group_in stream) (coming stream) new (coming n)) (same : header n ≡ header stream) where
      abbrev own : ℕ
      own = group_in stream

      -- the same has come of it
      come_here : come_one new n ≡ come_one t stream
      come_here = grind (arith, append_assoc, get_or-set_same)

      -- the same has come at each place
      come_there : (j : ℕ) → j < length xs → come_one new (get_or (set xs k n) j d) ≡ come_one t (get_or xs j d)
      come_there j lt = grind (arith, cases_eq j k, come_here, get_or-set_other, get_or-set_same, other_group j)

      -- the same has come of all
      turn_moves : come new (set xs k n) ≡ come t xs
      turn_moves = ext_get_or (come_one t d) (come new (set xs k n)) (come t xs) (simp (length-map, length-set)) (λ j lt. grind (arith, come_there j, get_or-map, length-map, length-set))

  -- ---- a round

  -- how many records of a stream are to come
  abbrev waits : X → ℕ
  waits x = length (coming x)

  -- the streams below a bound had their turn
  pub record IsRound (s : Streams) (old : List X) (bound : ℕ) (took : Bool) (t : Streams) (new : List X) : Type 0 where
    pub same : come t new ≡ come s old
    pub sizes : t.sizes ≡ s.sizes
    pub no_more : sum_by waits new ≤ sum_by waits old
    pub some : IsTrue took → sum_by waits new < sum_by waits old
    pub none : IsFalse took → (j : ℕ) (d : X) → j < bound → coming (get_or new j d) ≡ []

  -- a turn took some of what was to come, or nothing is to come after it
  abbrev pub HadTurn : Bool → Bool → X → X → Type 0
  HadTurn took now x n = (IsTrue now × (waits n < waits x)) ⊎ ((now ≡ took) × (coming n ≡ []))

  -- the stream at the bound is next
  module _ (s t : Streams) (old xs : List X) (k : ℕ) (d : X) (took : Bool) (within : k < length xs) (may : MayCome group s.sizes (come s old)) (count : length t.lists ≡ length t.sizes) (round : IsRound s old k took t xs) where
    abbrev bound_stream : X
    bound_stream = get_or xs k d

    may_now : MayCome group t.sizes (come t xs)
    may_now = grind arith

    -- its group may have all that was taken and is to come
    pub round_may : MayTake t (group_in bound_stream) (coming bound_stream)
    round_may = stream_may t xs k d within may_now count

    -- it had its turn
    module _ (now : Bool) (new : Streams) (n : X) (from : AreTakenFrom t (group_in bound_stream) (coming bound_stream) new (coming n)) (same : header n ≡ header bound_stream) (turn : HadTurn took now bound_stream n) where
      -- fewer records are to come by those that were taken
      sum_moves : sum_by waits xs ≡ sum_by waits (set xs k n) + length from.0
      sum_moves = omega (arith, sum_by-set waits xs k n d within, ap length from.1, length-append from.0 (coming n))

      -- where one was taken, fewer are
      now_some : IsTrue now → sum_by waits (set xs k n) < sum_by waits old
      now_some was = grind (arith, sum_moves, length-append from.0 (coming n))

      -- where none was taken, none is
      now_none : IsFalse now → (j : ℕ) (x : X) → j < k + 1 → coming (get_or (set xs k n) j x) ≡ []
      now_none never j x lt = grind (arith, cases_eq j k, get_or-set_same, get_or-set_other, round.none)

      pub round_goes_on : IsRound s old (k + 1) now new (set xs k n)
      round_goes_on = grind (arith, turn_moves t xs k d within may_now new n round_may.there from same, sum_moves, now_some, now_none)
