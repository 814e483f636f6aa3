-- Values of arguments, and the runs that they set up.
use Rattle.gr_model.proofs.Common.{arith, ◌≡◌, ℕ, List, sym, codes, refl, subst, Result, Ok, Err, ◌↔◌, IfOk, IsOk}
use Rattle.std.specs.Result.{result_ok}
use Rattle.clap.proofs.WalkLemmas.{first_value-rows, raw_values-rows}
use Rattle.clap.specs.Walk.{Row, Text}
use Rattle.gr_model.specs.declared.config.ConfigError.{ConfigError}
use Rattle.gr_model.specs.Prelude.{IsConfig, Settings}
use Rattle.gr_arguments.specs.Asked.{IsNumberOr, IsSetUp, IsTheOne}

-- the values of an argument are those of its rows
pub ruleset value_rows = (first_value-rows, raw_values-rows)

-- an option has at most one number
one_number : (rows : List Row) (option : Text) (default m n : ℕ) → IsNumberOr rows option default m → IsNumberOr rows option default n → m ≡ n
one_number rows option default m n a b = grind arith

-- the values set up at most one run
pub one_set_up : (rows : List Row) (c d : Settings) → IsSetUp rows c → IsNumberOr rows (codes "workers") 2 d.workers → IsNumberOr rows (codes "queues") 1 d.queues → IsNumberOr rows (codes "capacity") 1024 d.capacity → c ≡ d
one_set_up rows c d a workers queues capacity = grind (arith, one_number rows)

-- the numbers of the options set up a run if and only if a run may have them
pub set_up : (rows : List Row) (given : Settings) (made : Result Settings ConfigError) → IsNumberOr rows (codes "workers") 2 given.workers → IsNumberOr rows (codes "queues") 1 given.queues → IsNumberOr rows (codes "capacity") 1024 given.capacity → (IsOk made ↔ IsConfig given) → IfOk made (λ c. c ≡ given) → IsTheOne (IsSetUp rows) (result_ok made)
set_up rows given (Ok c) workers queues capacity accepted is =
    subst (IsSetUp rows) (sym is) (record { workers = workers; queues = queues; capacity = capacity; may_be = accepted.0 refl })
set_up rows given (Err e) workers queues capacity accepted is = λ c is_set_up.
    let same = one_set_up rows c given is_set_up workers queues capacity in grind (arith, accepted)
