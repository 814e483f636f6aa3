-- The words that are hit in what some worker got are the races.
use Rattle.gr_model.proofs.Common.{◌≡◌, ◌⊎◌, ◌↔◌, ◌==◌, ℕ, ◌<◌, ◌≤◌, true, List, [], ◌∷◌, ◌++◌, length, get_or, refl, sym, ◌∙◌, subst, inl, inr, ⊎_elim, arith, append-nil, eq-eqb, Contains, cases_lt, get_or_append_left, get_or_push, length-append, length-map}
use Rattle.gr_model.specs.declared.event.Word.{Word}
use Rattle.gr_model.specs.Prelude.{IsConfig, Settings, worker_number, AreRaces, Lists, WordBelow}
use Rattle.gr_model.proofs.HitLaws.{IsHit-filter}
use Rattle.gr_steps.proofs.EventRecords.{filter-there}
use Rattle.gr_closure.proofs.Clashing.{lists_as, whole_hits_are_races}
use Rattle.gr_order.specs.Sequences.{Sequence}
use Rattle.gr_route.specs.IntakeSeats.{Taker}
use Rattle.gr_route.specs.WorkSeats.{Giver}
use Rattle.gr_shadow.specs.Clashes.{ClockedAccess, IsHitIn, clashes}
use Rattle.gr_threads.specs.Given.{accesses_in}
use Rattle.gr_sequencer_thread.specs.Feeds.{IsWhole, accesses_for, given_of}
use Rattle.gr_sequencer_thread.proofs.StepLemmas.{worker_below}
use Rattle.gr_detector.specs.Settling.{IsHitAmong}

-- ---- the workers, one after another

pub none_among : Lists WordBelow (IsHitAmong []) []
none_among = record { ascending = λ i j d lt below. absurd (omega (arith, below)); exact = λ v. (λ has. absurd (let lt = has.1 in omega (arith, lt)), λ hit. absurd (let lt = hit.1 in omega (arith, lt))) }

one_among : (seen : List (List ClockedAccess)) (given : List ClockedAccess) (v : Word) → (IsHitAmong seen v ⊎ IsHitIn given v) ↔ IsHitAmong (seen ++ given ∷ []) v
one_among seen given v = (
  λ either. ⊎_elim
      (λ (hit : IsHitAmong seen v). let lt = hit.1 in (hit.0, omega (arith, lt, length-append seen (given ∷ [])), rw (get_or_append_left seen (given ∷ []) [] hit.0 lt) hit.2))
      (λ (hit : IsHitIn given v). (length seen, omega (arith, length-append seen (given ∷ [])), rw (get_or_push seen given [] (length seen) refl) hit))
      either,
  λ hit. let lt = hit.1 in ⊎_elim
      (λ (before : hit.0 < length seen). inl (hit.0, before, rw (sym (get_or_append_left seen (given ∷ []) [] hit.0 before)) hit.2))
      (λ (after : length seen ≤ hit.0). inr (rw (sym (get_or_push seen given [] hit.0 (omega (arith, lt, after, length-append seen (given ∷ []))))) hit.2))
      (cases_lt hit.0 (length seen)),
)

pub both_are : (old more : List Word) (seen : List (List ClockedAccess)) (given : List ClockedAccess) (new : List Word) → Lists WordBelow (λ w. Contains old w ⊎ Contains more w) new → Lists WordBelow (IsHitAmong seen) old → Lists WordBelow (IsHitIn given) more → Lists WordBelow (IsHitAmong (seen ++ given ∷ [])) new
both_are old more seen given new both first second = lists_as new both (λ v. (
  λ has. (one_among seen given v).0 (⊎_elim (λ a. inl ((first.exact v).0 a)) (λ b. inr ((second.exact v).0 b)) has),
  λ hit. ⊎_elim (λ a. inl ((first.exact v).1 a)) (λ b. inr ((second.exact v).1 b)) ((one_among seen given v).1 hit),
))

-- ---- the races

-- a word that is hit in the accesses that go to a worker goes to the worker
hit_goes : (workers k : ℕ) (v : Word) (accesses : List ClockedAccess) → IsHitIn (accesses_for workers k accesses) v → (worker_number v workers == k) ≡ true
hit_goes workers k v accesses (p, q, x, y, before, first, second, clash) = grind (arith, filter-there)

module _ {A : Type 0} (config : Settings) (is : IsConfig config) (seq : Sequence) (takers : List Taker) (givers : List (Giver A)) (worker_count : length givers ≡ config.workers) (whole : IsWhole config seq takers givers) where
  -- a worker got all accesses to its words
  given_is : (k : ℕ) → k < config.workers → get_or (given_of givers) k [] ≡ accesses_for config.workers k whole.passed.0
  given_is k lt = sym (whole.passed.2 k lt ∙ append-nil (get_or (given_of givers) k []))

  hit_here : (v : Word) (k : ℕ) → k < config.workers → (worker_number v config.workers == k) ≡ true → IsHitIn whole.passed.0 v ↔ IsHitIn (get_or (given_of givers) k []) v
  hit_here v k lt mine = rw (given_is k lt)
      (IsHit-filter (λ (x : ClockedAccess). x.word) clashes (λ u. worker_number u config.workers == k) whole.passed.0 v mine)

  hit_among : (v : Word) → IsHitAmong (given_of givers) v ↔ IsHitIn whole.passed.0 v
  hit_among v = (
    λ hit.
        let within = hit.1 in
        let lt : hit.0 < config.workers = omega (arith, within, worker_count, length-map givers (λ (g : Giver A). accesses_in g.pushed)) in
        let mine = hit_goes config.workers hit.0 v whole.passed.0 (subst (λ (l : List ClockedAccess). IsHitIn l v) (given_is hit.0 lt) hit.2) in
        (hit_here v hit.0 lt mine).1 hit.2,
    λ hit.
        let k = worker_number v config.workers in
        let lt : k < config.workers = worker_below v config.workers (let some = is.workers.0 in omega (arith, some)) in
        (k, omega (arith, lt, worker_count, length-map givers (λ (g : Giver A). accesses_in g.pushed)), (hit_here v k lt (eq-eqb k k refl)).0 hit),
  )

  pub races_are : (words : List Word) → Lists WordBelow (IsHitAmong (given_of givers)) words → AreRaces seq.taken words
  races_are words lists = lists_as words lists (λ v.
      let both = whole_hits_are_races seq.taken seq.handled whole.passed.0 v (record { lawful = whole.sequence_is.lawful; whole = λ e grounded. (whole.done.grounded e).1 grounded }) whole.passed.1 in
      (λ hit. both.0 ((hit_among v).0 hit), λ racy. (hit_among v).1 (both.1 racy)))
