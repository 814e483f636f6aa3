-- The work on its way to a worker.
use Rattle.gr_model.proofs.Common.{◌≡◌, true≢false, List, [], ◌∷◌, ◌++◌, ◌||◌, Option, None, Some, sym, ap, ◌∙◌, append_assoc, append-nil, IsFalse, or_from, or_parts}
use Rattle.gr_route.specs.declared.work.Work.{Work}
use Rattle.gr_route.specs.WorkRule.{StopsLast, is_stopped}
use Rattle.gr_route.proofs.BatchLemmas.{all_of_push}
use Rattle.gr_threads.proofs.Givens.{more_stops}
use Rattle.gr_sequencer_thread.specs.Feeds.{work_on_way}

module _ {A : Type 0} where
  -- in two lists there are accesses alone exactly if there are in each
  pub both_unstopped : (xs ys : List (Work A)) → IsFalse (is_stopped xs) → IsFalse (is_stopped ys) → IsFalse (is_stopped (xs ++ ys))
  both_unstopped xs ys first then = more_stops xs ys ∙ or_from _ _ first then

  pub unstopped_each : (xs ys : List (Work A)) → IsFalse (is_stopped (xs ++ ys)) → IsFalse (is_stopped xs) × IsFalse (is_stopped ys)
  unstopped_each xs ys unstopped = or_parts _ _ (sym (more_stops xs ys) ∙ unstopped)

  -- accesses may be pushed after others
  pub stops_last : (xs : List (Work A)) → IsFalse (is_stopped xs) → StopsLast xs
  stops_last [] unstopped = tt
  stops_last (x ∷ xs) unstopped = ((λ stop. absurd (true≢false (ap (λ c. c || is_stopped xs) (sym stop) ∙ unstopped))), stops_last xs ((unstopped_each (x ∷ []) xs unstopped).1))

  -- ---- work more is on its way

  pub way_more : (refused : Option (List (Work A))) (batches : List (List (Work A))) (waiting more : List (Work A)) → work_on_way refused batches (waiting ++ more) ≡ work_on_way refused batches waiting ++ more
  way_more None batches waiting more = simp append_assoc
  way_more (Some b) batches waiting more = simp append_assoc

  -- what waited is a batch
  pub way_batched : (refused : Option (List (Work A))) (batches : List (List (Work A))) (b : List (Work A)) → work_on_way refused (batches ++ b ∷ []) [] ≡ work_on_way refused batches b
  way_batched None batches b = simp (append-nil, all_of_push)
  way_batched (Some r) batches b = simp (append-nil, all_of_push)
