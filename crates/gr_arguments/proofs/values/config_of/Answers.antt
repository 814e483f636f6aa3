use Rattle.gr_model.proofs.Common.{◌≡◌, rules}
use Rattle.clap.specs.Walk.{rows_of}
use Rattle.clap.specs.Words.{found_of}
use Rattle.gr_arguments.proofs.Asking.{set_up}
use Rattle.gr_arguments.proofs.values.config_of.Goals as goal

pub returns-in_err-number_or : goal.returns-in_err-number_or
returns-in_err-number_or c =
    rw c.from_residual.ensures (λ config is. c.in_err-number_or.ensures config.workers is.workers)

pub returns-in_err-number_or-2 : goal.returns-in_err-number_or-2
returns-in_err-number_or-2 c =
    rw c.from_residual-in_err-number_or-2.ensures (λ config is. c.in_err-number_or-2.ensures config.queues is.queues)

pub returns-in_err-capacity : goal.returns-in_err-capacity
returns-in_err-capacity c =
    rw c.from_residual-in_err-capacity.ensures (λ config is. c.in_err-capacity.ensures config.capacity is.capacity)

pub returns : goal.returns
returns c =
    let rows = rows_of (found_of c.args.values.now) in
    let same : (c.in_ok-workers.workers ≡ c.in_ok-number_or.field-0) × (c.in_ok-queues.queues ≡ c.in_ok-number_or-2.field-0) = search rules in
    rw c.ok-3.ensures.value
    (set_up rows (record { workers = c.in_ok-workers.workers; queues = c.in_ok-queues.queues; capacity = c.in_ok-capacity.capacity }) c.new.result
    (rw same.0 c.in_ok-number_or.ensures) (rw same.1 c.in_ok-number_or-2.ensures) c.in_ok-capacity.ensures c.new.ensures.accepted c.new.ensures.numbers)
