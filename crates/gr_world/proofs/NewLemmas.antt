-- A world in which nothing was sent is a world.
use Rattle.gr_model.proofs.Common.{◌≡◌, ℕ, zero, suc, ◌%◌, ◌<◌, ◌≤◌, List, [], ◌∷◌, ◌++◌, length, refl, sym, ap, ◌∙◌, subst, ⊎_elim, arith, Contains, get_or-eq_default, cases_lt, get_or-replicate, length-replicate}
use Rattle.gr_world.specs.Types.{Event, Sent}
use Rattle.gr_model.specs.Prelude.{IsConfig, Settings, IsShape, ArePrefixes, events_of, list_of}
use Rattle.gr_steps.proofs.Orders.{lawful_empty}
use Rattle.gr_closure.specs.AccessesAlong.{of_none}
use Rattle.gr_lanes.specs.Takes.{nothing_taken}
use Rattle.gr_world.specs.Queues.{Bounded, Work, empty_queue, no_work}
use Rattle.gr_world.specs.Worlds.{IsWorld, World, intake_at, new_world, no_queue, work_at}

none_sent : (sizes : List ℕ) (g : ℕ) → list_of (nothing_taken sizes) g ≡ []
none_sent [] g = refl
none_sent (n ∷ sizes) zero = refl
none_sent (n ∷ sizes) (suc g) = none_sent sizes g

module _ (sizes : List ℕ) (config : Settings) (shape : IsShape sizes) (prefixes : ArePrefixes (nothing_taken sizes)) (ok : IsConfig config) where
  abbrev w : World
  w = new_world sizes config

  intake_is : (q : ℕ) → q < config.queues → intake_at w q ≡ empty_queue config.capacity
  intake_is q lt = get_or-replicate config.queues q (empty_queue config.capacity) no_queue lt

  work_is : (k : ℕ) → k < config.workers → work_at w k ≡ no_work config.capacity
  work_is k lt = get_or-replicate config.workers k (no_work config.capacity) (no_work 0) lt

  none_queued : (q : ℕ) → (intake_at w q).items ≡ []
  none_queued q = ⊎_elim (λ lt. ap (λ (b : Bounded Sent). b.items) (intake_is q lt))
      (λ (ge : config.queues ≤ q). ap (λ (b : Bounded Sent). b.items) (get_or-eq_default w.intakes no_queue (omega (arith, ge, length-replicate config.queues (empty_queue {T = Sent} config.capacity)))))
      (cases_lt q config.queues)

  pub new_is_world : IsWorld (new_world sizes config)
  new_is_world = record {
    config = ok;
    shape = shape;
    sent = prefixes;
    room = λ g unclosed. omega (arith, ap length (none_sent sizes g));
    sequence = record { prefixes = prefixes; lawful = lawful_empty (nothing_taken sizes) };
    sizes = refl;
    queues = length-replicate config.queues (empty_queue config.capacity);
    intakes = λ q lt. ap (λ (b : Bounded Sent). b.places) (intake_is q lt);
    worker_count = length-replicate config.workers (no_work config.capacity);
    workers = λ k lt. ap (λ (x : Work). x.queue.places) (work_is k lt);
    delivered = record {
      whole = λ g. none_sent sizes g ∙ sym (ap (λ (l : List Event). l ++ events_of g (intake_at w (g % config.queues)).items) (none_sent sizes g) ∙ ap (events_of g) (none_queued (g % config.queues)));
      own = λ q s has. absurd (let none : Contains [] s = subst (λ (l : List Sent). Contains l s) (none_queued q) has in let lt = none.1 in omega (arith, lt));
    };
    passed = record {
      accesses = [];
      along = of_none;
      each = λ k lt. sym (ap (λ (x : Work). x.received ++ x.queue.items ++ []) (work_is k lt));
    };
  }
