use Rattle.gr_model.proofs.Common.{◌∷◌, [], ap, ◌∙◌, slice_set, rules, set-get_or, on_ok_weaker, on_err_weaker}
use Rattle.gr_shadow.proofs.KeepsLemmas.{Keeps-set, Keeps-push}
use Rattle.gr_shadow.proofs.touches.put.Goals as goal

pub returns-in-Some-clause-kept : goal.returns-in-Some-clause-kept
returns-in-Some-clause-kept g c =
    on_ok_weaker c.add.result (λ kept. Keeps-set c.args.lists.now.items c.in-Some.place c.index_mut.result.now c.add.new.self (c.args.touch ∷ []) (search rules) c.index_mut.ensures.value kept) c.add.ensures.kept

pub returns-in-Some-clause-err : goal.returns-in-Some-clause-err
returns-in-Some-clause-err g c =
    on_err_weaker c.add.result (λ same. ap (slice_set c.args.lists.now.items c.in-Some.place) (same ∙ c.index_mut.ensures.value) ∙ set-get_or c.args.lists.now.items c.in-Some.place c.index_mut.result.now) c.add.ensures.err

pub returns-in_ok-push-in-None-clause-kept : goal.returns-in_ok-push-in-None-clause-kept
returns-in_ok-push-in-None-clause-kept g c =
    rw c.in_ok-push-in-None.ensures.items (Keeps-push c.args.lists.now.items _ (c.args.touch ∷ []) (rw c.new-list.ensures.touches at c.in_ok-add-in-None.ensures.kept))

pub add-requires-in-None : goal.add-requires-in-None
add-requires-in-None g c = c.new-list.ensures.has
