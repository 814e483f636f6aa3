-- The record at the front of a queue may be taken, and the result is a world.
use Rattle.gr_model.proofs.Common.{◌≡◌, ◌≢◌, ℕ, ◌<◌, ◌≤◌, List, [], ◌∷◌, ◌++◌, length, get_or, set, Option, Some, None, refl, sym, ap, ◌∙◌, subst, ⊎_elim, arith, append_assoc, true≢false, Contains, MatchOption, get_or-eq_default, cases_lt, get_or_default, length-append, length-set, Contains-append_right}
use Rattle.gr_world.specs.Types.{Event, Sent, MOST_RECORDS, Take}
use Rattle.gr_model.specs.Prelude.{IsEventOk, IsPrefix, events_of, list_of, size_of}
use Rattle.gr_model.proofs.Sending.{events_append, events_else, events_here}
use Rattle.gr_model.proofs.StreamPrefixes.{next_ok, next_room, next_unended}
use Rattle.gr_closure.proofs.Growing.{accesses_stay}
use Rattle.gr_lanes.specs.Takes.{CanTake}
use Rattle.gr_lanes.proofs.Growth.{record_grows}
use Rattle.gr_order.specs.Sequences.{IsSequence, Sequence, taking}
use Rattle.gr_world.specs.Queues.{Bounded, leaving}
use Rattle.gr_world.specs.Steps.{IsAllowed, IsWorldStep}
use Rattle.gr_world.specs.Worlds.{AreDelivered, ArePassedOn, IsWorld, World, intake_at, no_queue, queue_of, taking_front}
use Rattle.gr_world.proofs.Changes.{where_set}

-- what remains of a queue after its front was taken off
popped_is : {T : Type 0} (old new : Bounded T) (result : Option T) (x : T) (rest : List T) → old.items ≡ x ∷ rest → MatchOption result ((old.items ≡ []) × (new ≡ old)) (λ y. (old.items ≡ y ∷ new.items) × (new ≡ leaving old new.items)) → new ≡ leaving old rest
popped_is old new None x rest front h = absurd (let e : x ∷ rest ≡ [] = sym front ∙ h.0 in cc)
popped_is old new (Some y) x rest front h = let e : y ∷ new.items ≡ x ∷ rest = sym h.0 ∙ front in h.1 ∙ ap (leaving old) (cc)

module _ (w : World) (world : IsWorld w) (q : ℕ) (s : Sent) (rest : List Sent) (b : Bounded Sent) (at : b ≡ get_or w.intakes q b) (there : q < length w.intakes) (first : b.items ≡ s ∷ rest) where
  now : b ≡ intake_at w q
  now = at ∙ get_or_default w.intakes q b no_queue there

  front : (intake_at w q).items ≡ s ∷ rest
  front = ap (λ (c : Bounded Sent). c.items) (sym now) ∙ first

  abbrev new : World
  new = taking_front w q s rest

  pub queue_is : queue_of w s.group ≡ q
  queue_is = world.delivered.own q s (subst (λ (l : List Sent). Contains l s) (sym front) (0, omega arith, refl))

  -- what is queued of a group: the front, if it is of the group, and what is queued after it
  front_is : (h : ℕ) → events_of h (intake_at w q).items ≡ events_of h (s ∷ []) ++ events_of h rest
  front_is h = ap (events_of h) front ∙ events_append h (s ∷ []) rest

  -- what was sent of the group: what was taken, the front, and what is queued after it
  sent_is : list_of w.sent s.group ≡ list_of w.sequence.taken s.group ++ s.event ∷ events_of s.group rest
  sent_is = rw (world.delivered.whole s.group, queue_is, front_is s.group, events_here s)

  pub group_there : s.group < length w.sent.sizes
  group_there = ⊎_elim (λ lt. lt)
      (λ (ge : length w.sent.sizes ≤ s.group). absurd
      (let none : list_of w.sent s.group ≡ [] = get_or-eq_default w.sent.lists [] (omega (arith, world.sent.count, ge)) in
      omega (arith, ap length none, ap length sent_is, length-append (list_of w.sequence.taken s.group) (s.event ∷ events_of s.group rest))))
      (cases_lt s.group (length w.sent.sizes))

  is_prefix : IsPrefix (size_of w.sent s.group) (list_of w.sequence.taken s.group ++ s.event ∷ events_of s.group rest)
  is_prefix = subst (IsPrefix (size_of w.sent s.group)) sent_is (world.sent.each s.group group_there)

  pub event_good : IsEventOk s.event (size_of w.sent s.group)
  event_good = next_ok (size_of w.sent s.group) (list_of w.sequence.taken s.group) s.event (events_of s.group rest) is_prefix

  pub room_there : length (list_of w.sequence.taken s.group) < MOST_RECORDS
  room_there = next_room (size_of w.sent s.group) (list_of w.sequence.taken s.group) s.event (events_of s.group rest) is_prefix

  pub may_take : CanTake w.sequence.taken s.group s.event
  may_take = record {
    group = subst (λ (sizes : List ℕ). s.group < length sizes) (sym world.sizes) group_there;
    before_end = λ whole. absurd (true≢false (sym whole ∙ next_unended (size_of w.sent s.group) (list_of w.sequence.taken s.group) s.event (events_of s.group rest) is_prefix));
    item = subst (λ (sizes : List ℕ). s.event.item < get_or sizes s.group 0) (sym world.sizes) event_good.0;
  }

  abbrev queue : Bounded Sent
  queue = leaving (intake_at w q) rest

  -- what was queued of a group: the front, if it is of the group, and what is queued now
  queued : (h : ℕ) → events_of h (intake_at w (queue_of w h)).items ≡ events_of h (s ∷ []) ++ events_of h (intake_at new (queue_of w h)).items
  queued h = where_set (λ p b. p ≡ queue_of w h → events_of h (intake_at w p).items ≡ events_of h (s ∷ []) ++ events_of h b.items) w.intakes q queue no_queue there
      (λ _. front_is h)
      (λ p apart mine. sym (ap (λ (l : List Event). l ++ events_of h (intake_at w p).items) (events_else h s (λ same. apart (mine ∙ ap (queue_of w) (sym same) ∙ queue_is)))))
      (queue_of w h)
      refl

  whole : (h : ℕ) → list_of w.sent h ≡ list_of new.sequence.taken h ++ events_of h (intake_at new (queue_of w h)).items
  whole = where_set (λ h l. list_of w.sent h ≡ l ++ events_of h (intake_at new (queue_of w h)).items) w.sequence.taken.lists s.group (list_of w.sequence.taken s.group ++ s.event ∷ []) []
      (let group = may_take.group in omega (arith, world.sequence.prefixes.count, group))
      (rw (world.delivered.whole s.group, queued s.group, events_here s, append_assoc))
      (λ h apart. rw (world.delivered.whole h, queued h, events_else h s (λ same. apart (sym same))))

  own : (p : ℕ) (t : Sent) → Contains (intake_at new p).items t → queue_of w t.group ≡ p
  own = where_set (λ p b. (t : Sent) → Contains b.items t → queue_of w t.group ≡ p) w.intakes q queue no_queue there
      (λ t has. world.delivered.own q t (subst (λ (l : List Sent). Contains l t) (sym front) (Contains-append_right (s ∷ []) rest t has)))
      (λ p _. world.delivered.own p)

  places : (p : ℕ) → p < w.config.queues → (intake_at new p).places ≡ w.config.capacity
  places = where_set (λ p b. p < w.config.queues → b.places ≡ w.config.capacity) w.intakes q queue no_queue there (world.intakes q) (λ p _. world.intakes p)

  pub taking_is_world : IsSequence new.sequence → IsWorld new
  taking_is_world sequence =
      let queues = length-set w.intakes q queue ∙ world.queues in
      let delivered : AreDelivered new = record { whole = whole; own = own } in
      let passed : ArePassedOn new = record {
        accesses = world.passed.accesses;
        along = accesses_stay w.sequence.taken new.sequence.taken (record_grows w.sequence.taken s.group s.event world.sequence.prefixes may_take) w.sequence.handled world.passed.accesses world.sequence.lawful world.passed.along;
        each = world.passed.each;
      } in
      assumption (sequence, queues, places, delivered, passed, world)

  pub take_allowed : IsAllowed w (Take q)
  take_allowed =
      let good : ¬ (w.config.queues ≤ q) = λ bad. omega (arith, bad, there, world.queues) in
      let some : (intake_at w q).items ≢ [] = λ empty. let e : s ∷ rest ≡ [] = sym front ∙ empty in absurd (cc) in
      search

  -- the same, where equations say what the sequence and the queue are
  module _ (sequence : Sequence) (left : Bounded Sent) (is : sequence ≡ taking w.sequence s.group s.event) (result : Option Sent) (popped : MatchOption result ((b.items ≡ []) × (left ≡ b)) (λ y. (b.items ≡ y ∷ left.items) × (left ≡ leaving b left.items))) where
    taken_is : record w { intakes = set w.intakes q left; sequence = sequence } ≡ new
    taken_is =
        let all : left ≡ queue = popped_is b left result s rest first popped ∙ ap (λ (c : Bounded Sent). leaving c rest) now in
        λ k. record w { intakes = set w.intakes q (all k); sequence = is k }

    pub taken_is_world : IsSequence sequence → IsWorld (record w { intakes = set w.intakes q left; sequence = sequence })
    taken_is_world lawful = subst IsWorld (sym taken_is) (taking_is_world (subst IsSequence is lawful))

    pub taken_is_step : IsWorldStep w (Take q) (record w { intakes = set w.intakes q left; sequence = sequence })
    taken_is_step = record { allowed = take_allowed; leads = (s, rest, front, taken_is) }
