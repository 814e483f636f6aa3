-- A world in which a record was sent is a world.
use Rattle.gr_model.proofs.Common.{◌≡◌, ℕ, zero, suc, ◌+◌, ◌<◌, [], ◌∷◌, ◌++◌, length, get_or, set, refl, sym, ap, ◌∙◌, subst, ⊎_elim, arith, append_assoc, append-nil, IsTrue, IsFalse, mod-lt, Contains, get_or_default, length-append, length-set, Contains-append_cases}
use native.Mathlib.Omega.{arith as numbers}
use Rattle.gr_world.specs.Types.{Event, Sent, MOST_RECORDS, Full}
use Rattle.gr_model.specs.Prelude.{is_end, ArePrefixes, Streams, events_of, is_complete, list_of}
use Rattle.gr_model.proofs.Sending.{events_append, events_else, events_here, is_complete-push}
use Rattle.gr_lanes.specs.Takes.{with_record}
use Rattle.gr_world.specs.Putting.{IsPutFault, MayPut, Queues}
use Rattle.gr_world.specs.Queues.{Bounded, HasRoom, pushed}
use Rattle.gr_world.specs.Worlds.{AreDelivered, ArePassedOn, IsWorld, World, intake_at, no_queue, queue_of, sending}
use Rattle.gr_world.proofs.Changes.{where_set}

-- the queue that a group's records go to
pub queue_there : (w : World) → IsWorld w → (g : ℕ) → queue_of w g < length w.intakes
queue_there w world g =
    let some : 0 < w.config.queues = let least = world.config.queues.0 in omega arith in
    omega (arith, mod-lt g some, world.queues)

pub at_queue : (w : World) → IsWorld w → (g q : ℕ) (b : Bounded Sent) → q ≡ queue_of w g → b ≡ get_or w.intakes q b → b ≡ intake_at w (queue_of w g)
at_queue w world g q b same at = at ∙ ap (λ n. get_or w.intakes n b) same ∙ get_or_default w.intakes (queue_of w g) b no_queue (queue_there w world g)

only_one : {T : Type 0} (x y : T) → Contains (x ∷ []) y → x ≡ y
only_one x y (zero, lt, is) = is
only_one x y (suc i, lt, is) = absurd (omega (arith, lt))

module _ (w : World) (world : IsWorld w) (g : ℕ) (x : Event) (there : g < length w.sent.sizes) (room : IsFalse (is_end x) → length (list_of w.sent g) + 1 < MOST_RECORDS) where
  abbrev new : World
  new = sending w g x

  abbrev sent : Sent
  sent = record { group = g; event = x }

  abbrev queue : Bounded Sent
  queue = pushed (intake_at w (queue_of w g)) sent

  list_there : g < length w.sent.lists
  list_there = omega (arith, world.sent.count, there)

  -- the records of a group in its queue: the new one is added if it is of this group
  queued : (h : ℕ) → events_of h (intake_at new (queue_of w h)).items ≡ events_of h (intake_at w (queue_of w h)).items ++ events_of h (sent ∷ [])
  queued h = where_set (λ q b. q ≡ queue_of w h → events_of h b.items ≡ events_of h (intake_at w q).items ++ events_of h (sent ∷ [])) w.intakes (queue_of w g) queue no_queue (queue_there w world g)
      (λ _. events_append h (intake_at w (queue_of w g)).items (sent ∷ []))
      (λ q apart mine. sym (ap (λ l. events_of h (intake_at w q).items ++ l) (events_else h sent (λ same. apart (mine ∙ ap (queue_of w) (sym same)))) ∙ append-nil (events_of h (intake_at w q).items)))
      (queue_of w h)
      refl

  whole : (h : ℕ) → list_of new.sent h ≡ list_of w.sequence.taken h ++ events_of h (intake_at new (queue_of w h)).items
  whole = where_set (λ h l. l ≡ list_of w.sequence.taken h ++ events_of h (intake_at new (queue_of w h)).items) w.sent.lists g (list_of w.sent g ++ x ∷ []) [] list_there
      (rw (world.delivered.whole g, queued g, events_here sent, append_assoc))
      (λ h apart. rw (world.delivered.whole h, queued h, events_else h sent (λ same. apart (sym same)), append-nil))

  own : (q : ℕ) (s : Sent) → Contains (intake_at new q).items s → queue_of w s.group ≡ q
  own = where_set (λ q b. (s : Sent) → Contains b.items s → queue_of w s.group ≡ q) w.intakes (queue_of w g) queue no_queue (queue_there w world g)
      (λ s has. ⊎_elim (λ old. world.delivered.own (queue_of w g) s old) (λ now. ap (λ (t : Sent). queue_of w t.group) (sym (only_one sent s now))) (Contains-append_cases (intake_at w (queue_of w g)).items (sent ∷ []) s has))
      (λ q _. world.delivered.own q)

  room_left : (h : ℕ) → ¬ IsTrue (is_complete (list_of new.sent h)) → length (list_of new.sent h) < MOST_RECORDS
  room_left = where_set (λ h l. ¬ IsTrue (is_complete l) → length l < MOST_RECORDS) w.sent.lists g (list_of w.sent g ++ x ∷ []) [] list_there
      (λ unclosed. omega (arith, length-append (list_of w.sent g) (x ∷ []), room (let ends = is_complete-push (list_of w.sent g) x in grind (numbers, ends))))
      (λ h _. world.room h)

  places : (q : ℕ) → q < w.config.queues → (intake_at new q).places ≡ w.config.capacity
  places = where_set (λ q b. q < w.config.queues → b.places ≡ w.config.capacity) w.intakes (queue_of w g) queue no_queue (queue_there w world g) (world.intakes (queue_of w g)) (λ q _. world.intakes q)

  pub sending_is_world : ArePrefixes new.sent → IsWorld new
  sending_is_world prefixes =
      let queues = length-set w.intakes (queue_of w g) queue ∙ world.queues in
      let delivered : AreDelivered new = record { whole = whole; own = own } in
      let passed : ArePassedOn new = record { accesses = world.passed.accesses; along = world.passed.along; each = world.passed.each } in
      assumption (prefixes, room_left, queues, places, delivered, passed, world)

-- the same, where equations say what the stream and the queue are
module _ (w : World) (world : IsWorld w) (g q : ℕ) (same : q ≡ queue_of w g) (b : Bounded Sent) (at : b ≡ get_or w.intakes q b) where
  pub may_put : ¬ IsTrue (is_complete (list_of w.sent g)) → HasRoom b → MayPut w g
  may_put unclosed room = record { unclosed = unclosed; room = subst HasRoom (at_queue w world g q b same at) room }

  pub put_full : ¬ IsTrue (is_complete (list_of w.sent g)) → ¬ HasRoom b → IsPutFault w g Full
  put_full unclosed full = (unclosed, λ room. full (subst HasRoom (sym (at_queue w world g q b same at)) room))

  module _ (x : Event) (s : Streams) (queue : Bounded Sent) (is : s ≡ with_record w.sent g x) (now : queue ≡ pushed b (record { group = g; event = x })) where
    sent_is : record w { sent = s; intakes = set w.intakes q queue } ≡ sending w g x
    sent_is =
        let all : queue ≡ pushed (intake_at w (queue_of w g)) (record { group = g; event = x }) = now ∙ ap (λ (c : Bounded Sent). pushed c (record { group = g; event = x })) (at_queue w world g q b same at) in
        λ k. record w { sent = is k; intakes = set w.intakes (same k) (all k) }

    pub sent_is_put : MayPut w g → Queues w g x (record w { sent = s; intakes = set w.intakes q queue })
    sent_is_put may = record { may = may; sends = sent_is }

    pub sent_is_world : ArePrefixes s → g < length w.sent.sizes → (IsFalse (is_end x) → length (list_of w.sent g) + 1 < MOST_RECORDS) → IsWorld (record w { sent = s; intakes = set w.intakes q queue })
    sent_is_world prefixes there room = subst IsWorld (sym sent_is) (sending_is_world w world g x there room (subst ArePrefixes is prefixes))
