-- No step is left where none is left in any group.
use Rattle.gr_model.proofs.Common.{ℕ, ◌<◌, ◌≤◌, length, sym, subst, ⊎_elim, cases_lt}
use Rattle.gr_steps.specs.Steps.{CanHandle, IsAtRest}
use Rattle.gr_steps.proofs.Resting.{rest_grounded}
use Rattle.gr_steps.proofs.EventRecords.{group_of_event, item_of_event}
use Rattle.gr_order.specs.Types.{Ready, Item, Group}
use Rattle.gr_order.specs.Answers.{CanMake}
use Rattle.gr_order.specs.Sequences.{IsDone, IsGroupAtRest, IsSequence, Sequence}
use Rattle.gr_order.proofs.MeetLemmas.{no_group_meets}

module _ (q : Sequence) (is : IsSequence q) where
  pub all_rest : ((g : ℕ) → g < length q.taken.sizes → IsGroupAtRest q g) → IsAtRest q.taken q.handled
  all_rest rest = record {
    handles = λ i can.
        let e = can.0 in
        let there = can.2.event in
        let group = group_of_event q.taken is.prefixes e there.0 there.1 in
        let item = item_of_event q.taken is.prefixes e there.0 there.1 in
        (rest e.at.group group).handles e.at.item item (subst (CanHandle q.taken q.handled) (sym can.1) can);
    meets = λ g. ⊎_elim (λ (within : g < length q.taken.sizes). (rest g within).meets) (λ (past : length q.taken.sizes ≤ g). no_group_meets q.taken q.handled g past) (cases_lt g (length q.taken.sizes));
  }

  pub rest_is_done : IsAtRest q.taken q.handled → IsDone q
  rest_is_done rest = record { rest = rest; grounded = rest_grounded q.taken q.handled is.lawful rest }

-- where a step can be made, some step is left
pub not_at_rest : (q : Sequence) (r : Ready) → CanMake q r → ¬ IsAtRest q.taken q.handled
not_at_rest q (Item i) can rest = rest.handles i can
not_at_rest q (Group g) can rest = rest.meets g can
