-- How a run may be set up, and which worker a word goes to.
-- Source: docs/QUEUES.md, "Workers and queues".
use Rattle.std.specs.Prelude.{ℕ, ◌+◌, ◌%◌, ◌≤◌}
use Rattle.gr_model.specs.Types.{Word, MOST_WORKERS, MOST_QUEUES, MOST_PLACES}
use Rattle.gr_model.specs.declared.event.Word.TheVariants.{Global, Local}
use Rattle.gr_model.specs.declared.config.ConfigError.{ConfigError}
use Rattle.gr_model.specs.declared.config.ConfigError.TheVariants.{BadWorkers, BadQueues, BadCapacity}

-- the numbers of a configuration
pub record Settings : Type 0 where
  pub workers : ℕ
  pub queues : ℕ
  pub capacity : ℕ

-- at least one, and not too many
abbrev pub IsAmount : ℕ → ℕ → Type 0
IsAmount most n = (1 ≤ n) × (n ≤ most)

pub record IsConfig (c : Settings) : Type 0 where
  pub workers : IsAmount MOST_WORKERS c.workers
  pub queues : IsAmount MOST_QUEUES c.queues
  pub capacity : IsAmount MOST_PLACES c.capacity

-- why numbers are no configuration: the first of these causes that is there
abbrev pub IsConfigFault : Settings → ConfigError → Type 0
IsConfigFault c BadWorkers = ¬ IsAmount MOST_WORKERS c.workers
IsConfigFault c BadQueues = IsAmount MOST_WORKERS c.workers × ¬ IsAmount MOST_QUEUES c.queues
IsConfigFault c BadCapacity = IsAmount MOST_WORKERS c.workers × IsAmount MOST_QUEUES c.queues × ¬ IsAmount MOST_PLACES c.capacity

-- the worker, of so many, that has a word
abbrev pub worker_number : Word → ℕ → ℕ
worker_number (Global number) workers = number % workers
worker_number (Local group number) workers = (group + number) % workers
