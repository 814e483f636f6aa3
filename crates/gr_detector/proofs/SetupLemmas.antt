-- The parts of a run: one sender after another.
use Rattle.gr_model.proofs.Common.{◌≡◌, ◌≢◌, ◌==◌, ℕ, ◌+◌, ◌<◌, ◌%◌, List, length, get_or, set, take, cond, Some, slice_get, arith, get_or-eq_default, nat_tests, get_or-map, get_or-set_other, get_or-set_same, get_or-take, length-map, length-take, slice_get-get_or}
use Rattle.atomic_table.specs.Seated.{TableId}
use Rattle.gr_model.specs.Prelude.{Settings}
use Rattle.gr_clocks.proofs.RowLemmas as rows
use Rattle.gr_route.specs.IntakeSeats.{Taker}
use Rattle.gr_sequencer_thread.specs.Feeds.{AreSeated, intakes_of}

-- the queue at this place
pub queue_at : (takers : List Taker) (intakes : List TableId) (q : ℕ) (d : Taker) → intakes_of takers ≡ intakes → q < length takers → slice_get intakes q ≡ Some (get_or takers q d).queue
queue_at takers intakes q d same lt =
    let at = slice_get-get_or (intakes_of takers) q d.queue in
    grind (arith, same, at, length-map takers (λ (t : Taker). t.queue), get_or-map (λ (t : Taker). t.queue) takers q d d.queue)

-- a seat of a group with this size was split off
abbrev pub seating : Taker → ℕ → ℕ → Taker
seating t g n = record { queue = t.queue; popped = t.popped; sizes = set t.sizes g n; joined = t.joined }

module _ (config : Settings) (sizes : List ℕ) (n : ℕ) (takers : List Taker) (q : ℕ) (place : q ≡ n % config.queues) (t : Taker) (at : t ≡ get_or takers q t) (below : q < config.queues) (was : AreSeated config (take n sizes) takers) where
  -- a group that has had no seat has none yet
  pub first : get_or t.sizes n 0 ≡ 0
  first = grind (arith, nat_tests, at, was q n t below, get_or-eq_default (take n sizes) 0 {n = n}, length-take n sizes)

  same_front : (g : ℕ) → g ≢ n → get_or (take (n + 1) sizes) g 0 ≡ get_or (take n sizes) g 0
  same_front g apart = grind (arith, get_or-take (n + 1) sizes g 0, get_or-take n sizes g 0, get_or-eq_default (take n sizes) 0 {n = g}, get_or-eq_default (take (n + 1) sizes) 0 {n = g}, length-take n sizes, length-take (n + 1) sizes)

  pub seat_more : q < length takers → n < length t.sizes → AreSeated config (take (n + 1) sizes) (set takers q (seating t n (get_or sizes n 0)))
  seat_more there wide p g d lt = rows.each_set (λ k u. k < config.queues → get_or u.sizes g 0 ≡ cond (g % config.queues == k) (get_or (take (n + 1) sizes) g 0) 0) d takers q (seating t n (get_or sizes n 0)) there
      (λ _. grind (arith, nat_tests, place, at, was q g t below, same_front g, get_or-take (n + 1) sizes n 0, get_or-set_same t.sizes n (get_or sizes n 0) 0, get_or-set_other t.sizes n g (get_or sizes n 0) 0))
      p
      (λ apart within. grind (arith, nat_tests, place, was p g d within, same_front g))
      lt
