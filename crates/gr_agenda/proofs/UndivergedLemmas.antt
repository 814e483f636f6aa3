-- An item at a barrier can go on exactly where the barrier's instance is divergent; and which instances stay as they are.
use Rattle.gr_model.proofs.Common.{◌≡◌, arith, ℕ, true, Some, refl, slice_index_or, Contains-get_or}
use Rattle.gr_agenda.specs.Types.{Event, EventId, ItemId}
use Rattle.gr_model.specs.Prelude.{IsDivergent, is_barrier, event_at}
use Rattle.gr_clocks.specs.Counts.{count_of}
use Rattle.gr_steps.specs.Steps.{CanHandle}
use Rattle.gr_steps.proofs.EventRecords.{barriers_name_nothing}
use Rattle.gr_order.specs.Sequences.{IsSequence, Sequence}
use Rattle.gr_order.proofs.ReadyLemmas.{only_next, passes_if, ready_if, stands_there}
use Rattle.gr_agenda.specs.Kept.{IsNextBarrier}
use Rattle.gr_agenda.proofs.KeptLemmas.{passes_there}

module _ (q : Sequence) (is : IsSequence q) (i : ItemId) (k : ℕ) (next : IsNextBarrier q i k) where
  abbrev e : EventId
  e = record { at = i; index = count_of next.0 i }

  there : (x : Event) × (event_at q.taken e ≡ Some x) × (is_barrier x ≡ true)
  there = passes_there q.taken is_barrier e k next.2

  pub undiverged_if : ¬ CanHandle q.taken q.handled i → ¬ IsDivergent q.taken i.group k
  undiverged_if stuck divergent = stuck (
    e,
    refl,
    ready_if q.taken q.handled is.lawful next.0 next.1 e refl there.0 there.1
        (λ k n lt. absurd (barriers_name_nothing q.taken is.prefixes e there.0 (slice_index_or there.0.names k n) there.1 there.2 (Contains-get_or there.0.names k n lt)))
        (passes_if q.taken is.prefixes e there.0 there.1 k next.2 divergent),
  )

  pub undiverged_only : ¬ IsDivergent q.taken i.group k → ¬ CanHandle q.taken q.handled i
  undiverged_only undiverged can = grind (arith, only_next q.taken q.handled is.lawful next.0 next.1 e refl can, stands_there q.taken is.prefixes e there.0 there.1 k next.2)
