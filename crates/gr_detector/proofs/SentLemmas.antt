-- What was taken is what was sent, if all ends were popped.
use Rattle.gr_model.proofs.Common.{◌≡◌, ◌==◌, ℕ, ◌<◌, ◌%◌, IsTrue, List, [], ◌∷◌, length, map, get_or, sym, ap, ◌∙◌, arith, filter, mod-lt, range_with_len, nat_tests, ext_get_or, get_or-map, length-map, get_or-map-range_with_len, length-map-range_with_len}
use Rattle.gr_route.specs.Types.{Event, Sent}
use Rattle.gr_model.specs.Prelude.{IsConfig, Settings, AreComplete, events_of, is_complete, list_of}
use Rattle.gr_order.specs.Sequences.{IsSequence, Sequence}
use Rattle.gr_route.specs.IntakeSeats.{Seat, Taker, popped_of}
use Rattle.gr_sequencer_thread.specs.Feeds.{AreTaken}
use Rattle.gr_detector.specs.Runs.{IsEachOnce, sent_by, sent_of}
use Rattle.gr_detector.specs.Settling.{ArePopped, popped_at, pops_of}

-- if a group has one receipt, what was popped of it is what the receipt has
sent_is : (pops : List (List Sent)) (g : ℕ) (receipts : List Seat) → IsTrue (is_complete (popped_at pops g)) → ArePopped pops receipts → length (filter (λ (r : Seat). r.group == g) receipts) ≡ 1 → popped_at pops g ≡ sent_of g receipts
sent_is pops g [] whole told once = absurd (omega (arith, once))
sent_is pops g (r ∷ receipts) whole told once = grind (arith, nat_tests, told.0.whole, sent_is pops g receipts whole told.1)

popped_here : (takers : List Taker) (q : ℕ) (g : ℕ) → q < length takers → (events : List Event) → ((d : Taker) → events ≡ popped_of (get_or takers q d) g) → events ≡ events_of g (get_or (pops_of takers) q [])
popped_here [] q g lt events h = absurd (omega (arith, lt))
popped_here (t ∷ ts) q g lt events h = h t ∙ ap (events_of g) (sym (get_or-map (λ (u : Taker). u.popped) (t ∷ ts) q t [] lt))

module _ (config : Settings) (is : IsConfig config) (seq : Sequence) (sequence : IsSequence seq) (complete : AreComplete seq.taken) (takers : List Taker) (queues : length takers ≡ config.queues) (taken : AreTaken config seq.taken takers) where
  popped_is : (g : ℕ) → g < length seq.taken.sizes → list_of seq.taken g ≡ popped_at (pops_of takers) g
  popped_is g there =
      let below = mod-lt g (let some = is.queues.0 in let pos : 0 < config.queues = omega (arith, some) in pos) in
      let here = popped_here takers (g % config.queues) g (omega (arith, below, queues)) (list_of seq.taken g) (λ d. taken g d there) in
      grind (arith, here, queues, length-map takers (λ (t : Taker). t.popped))

  pub taken_is_sent : (receipts : List Seat) → IsEachOnce (length seq.taken.sizes) receipts → ArePopped (pops_of takers) receipts → seq.taken ≡ sent_by seq.taken.sizes receipts
  taken_is_sent receipts once told =
      let n = length seq.taken.sizes in
      let lists = ext_get_or [] seq.taken.lists (map (λ g. sent_of g receipts) (range_with_len 0 n))
      (sequence.prefixes.count ∙ sym (length-map-range_with_len (λ g. sent_of g receipts) 0 n)) (λ g lt.
      let there : g < n = omega (arith, lt, sequence.prefixes.count) in
      let whole : IsTrue (is_complete (popped_at (pops_of takers) g)) = rw (sym (popped_is g there)) (complete g there) in
      popped_is g there
      ∙ (sent_is (pops_of takers) g receipts whole told (once g there)
      ∙ sym (get_or-map-range_with_len (λ h. sent_of h receipts) 0 n g g [] there (omega arith)))) in
      λ k. record { sizes = seq.taken.sizes; lists = lists k }
