-- A world at rest: all that was sent was taken, and all that was passed on was received. And the hits of all workers.
use Rattle.gr_model.proofs.Common.{◌≡◌, ◌⊎◌, ◌↔◌, ℕ, ◌<◌, ◌==◌, List, [], ◌∷◌, ◌++◌, length, None, refl, sym, ap, ◌∙◌, subst, inl, inr, ⊎_elim, arith, append-nil, eq-eqb, Contains, eqb-true, ext_get_or, get_or_default, Contains-append_left, Contains-push, Contains-push_cases}
use Rattle.gr_model.specs.declared.event.Word.{Word}
use Rattle.gr_model.specs.Prelude.{worker_number, AreRaces, Lists, WordBelow, AreComplete, Streams}
use Rattle.gr_model.proofs.HitLaws.{IsHit-filter}
use Rattle.gr_steps.specs.Steps.{AreGrounded, IsAtRest}
use Rattle.gr_closure.proofs.Clashing.{lists_as, whole_hits_are_races}
use Rattle.gr_order.specs.Sequences.{IsDone}
use Rattle.gr_world.proofs.ReceivedHits.{hit_goes}
use Rattle.gr_world.proofs.InFlightLemmas.{word_below}
use Rattle.gr_world.proofs.SendLemmas.{queue_there}
use Rattle.gr_shadow.specs.Clashes.{ClockedAccess, IsHitIn, clashes}
use Rattle.gr_world.specs.Queues.{Work, no_work}
use Rattle.gr_world.specs.Worlds.{AreEmpty, AreIdle, IsHitAtWork, IsWorld, IsWorldAtRest, World, accesses_for, no_queue, queue_of, work_at}

-- ---- empty queues

-- all that was sent was taken
pub drained_is_sent : (w : World) → IsWorld w → AreEmpty w.intakes → w.sequence.taken ≡ w.sent
drained_is_sent w world empty =
    let lists : w.sequence.taken.lists ≡ w.sent.lists = ext_get_or [] w.sequence.taken.lists w.sent.lists
    (world.sequence.prefixes.count ∙ (ap length world.sizes ∙ sym world.sent.count))
    (λ g lt. rw (world.delivered.whole g, empty (queue_of w g) no_queue (queue_there w world g), append-nil)) in
    λ k. record { sizes = world.sizes k; lists = lists k }

-- what is seen of a world with empty queues
module _ (w v : World) (world : IsWorld w) (view : w ≡ v) (empty : AreEmpty v.intakes) where
  taken_is_sent : w.sequence.taken ≡ w.sent
  taken_is_sent = drained_is_sent w world (rw view empty)

  pub grounded : AreGrounded w.sequence.taken w.sequence.handled → AreGrounded v.sent v.sequence.handled
  grounded are = rw (← view, ← taken_is_sent) are

  pub rests : AreIdle v.workers → w.in_flight ≡ None → (AreComplete w.sequence.taken × IsAtRest w.sequence.taken w.sequence.handled) ↔ IsWorldAtRest v
  rests idle in_flight = rw (← view) (
    λ both. record { closed = rw (← taken_is_sent) (both.0); intakes = rw view empty; in_flight = in_flight; work = rw view idle; rest = both.1 },
    λ rest. (rw taken_is_sent rest.closed, rest.rest),
  )

-- ---- hits of all workers

-- the words that were hit, and those that are hit in what one more worker received
pub one_more_at_work : (workers : List Work) (work : Work) (old more new : List Word) → Lists WordBelow (IsHitAtWork workers) old → Lists WordBelow (IsHitIn work.received) more → Lists WordBelow (λ v. Contains old v ⊎ Contains more v) new → Lists WordBelow (IsHitAtWork (workers ++ work ∷ [])) new
one_more_at_work workers work old more new were mine both = lists_as new both (λ v. (
  λ has. ⊎_elim (λ earlier. let hit = (were.exact v).0 earlier in (hit.0, Contains-append_left workers (work ∷ []) hit.0 hit.1, hit.2))
      (λ now. (work, Contains-push workers work, (mine.exact v).0 now)) has,
  λ hit. ⊎_elim (λ earlier. inl ((were.exact v).1 (hit.0, earlier, hit.2)))
      (λ same. inr ((mine.exact v).1 (subst (λ (x : Work). IsHitIn x.received v) (sym same) hit.2)))
      (Contains-push_cases workers work hit.0 hit.1),
))

-- ---- the races of a world at rest

module _ (w : World) (world : IsWorld w) (rest : IsWorldAtRest w) where
  -- a worker received all accesses to its words
  pub received_is : (k : ℕ) → k < w.config.workers → (work_at w k).received ≡ accesses_for w k world.passed.accesses
  received_is k lt = sym (world.passed.each k lt ∙ simp (rest.work k (no_work 0) (omega (arith, lt, world.worker_count)), rest.in_flight, append-nil))

  hit_here : (v : Word) (k : ℕ) → k < w.config.workers → worker_number v w.config.workers ≡ k → IsHitIn world.passed.accesses v ↔ IsHitIn (work_at w k).received v
  hit_here v k lt mine = subst (λ (l : List ClockedAccess). IsHitIn world.passed.accesses v ↔ IsHitIn l v) (sym (received_is k lt))
      (IsHit-filter (λ (x : ClockedAccess). x.word) clashes (λ u. worker_number u w.config.workers == k) world.passed.accesses v (eq-eqb (worker_number v w.config.workers) k mine))

  -- a word that is hit in what a worker received is one of its words
  mine_if_hit : (v : Word) (k : ℕ) → k < w.config.workers → IsHitIn (work_at w k).received v → worker_number v w.config.workers ≡ k
  mine_if_hit v k lt hit =
      eqb-true (worker_number v w.config.workers) k (hit_goes w k v world.passed.accesses (subst (λ (l : List ClockedAccess). IsHitIn l v) (received_is k lt) hit))

  hit_at_work : (v : Word) → IsHitAtWork w.workers v ↔ IsHitIn world.passed.accesses v
  hit_at_work v = (
    λ at.
        let lt : at.1.0 < w.config.workers = let within = at.1.1 in omega (arith, within, world.worker_count) in
        let hit : IsHitIn (work_at w at.1.0).received v = subst (λ (x : Work). IsHitIn x.received v) (sym (get_or_default w.workers at.1.0 (no_work 0) at.0 at.1.1 ∙ at.1.2)) at.2 in
        (hit_here v at.1.0 lt (mine_if_hit v at.1.0 lt hit)).1 hit,
    λ hit.
        let k = worker_number v w.config.workers in
        let lt : k < w.config.workers = word_below w world v in
        let within : k < length w.workers = omega (arith, lt, world.worker_count) in
        (work_at w k, (k, within, get_or_default w.workers k (work_at w k) (no_work 0) within), (hit_here v k lt refl).0 hit),
  )

  pub races_are_told : (words : List Word) → IsDone w.sequence → Lists WordBelow (IsHitAtWork w.workers) words → AreRaces w.sent words
  races_are_told words done lists = subst (λ (s : Streams). AreRaces s words) (drained_is_sent w world rest.intakes)
      (lists_as words lists (λ v.
      let both = whole_hits_are_races w.sequence.taken w.sequence.handled world.passed.accesses v (record { lawful = world.sequence.lawful; whole = λ e grounded. (done.grounded e).1 grounded }) world.passed.along in
      (λ at. both.0 ((hit_at_work v).0 at), λ racy. (hit_at_work v).1 (both.1 racy))))
