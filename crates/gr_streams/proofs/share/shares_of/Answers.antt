use Rattle.gr_model.proofs.Common.{◌≡◌, ◌∙◌, ◌++◌, ◌∷◌, [], List, append-nil, append_assoc, ap, refl, sym, Vec, into_iter_items}
use Rattle.gr_route.specs.Batches.{all_of}
use Rattle.gr_route.proofs.BatchLemmas.{all_of_push}
use Rattle.gr_streams.proofs.JoinLemmas.{all_yielded}
use Rattle.gr_streams.proofs.share.shares_of.Goals.{then-len-most+in_ok-add, else-len-most}
use Rattle.gr_streams.proofs.share.shares_of.Goals as goal

pub loop-source-preserved : goal.loop-source-preserved
loop-source-preserved g c =
    let old = c.loop-source in
    let now = c.if-len-most in
    let same : all_of now.shares.items ++ now.next.items ≡ all_of old.shares.items ++ old.next.items = elim now.branch [
      | then-len-most+in_ok-add w ↦
          let shares = ap (λ (v : Vec _ _). all_of v.items) w.shares-is ∙ (ap (λ (l : List (List _)). all_of l) w.in_ok-add.ensures ∙ (all_of_push old.shares.items w.replace.result.items ∙ ap (λ (v : Vec _ _). all_of old.shares.items ++ v.items) w.replace.ensures.value)) in
          let next = ap (λ (v : Vec _ _). v.items) (w.next-is ∙ w.replace.ensures.after) ∙ w.new.ensures.items in
          rw (shares, next) (append-nil (all_of old.shares.items ++ old.next.items))
      | else-len-most w ↦ rw (w.shares-is, w.next-is) refl
    ] in
    rw (c.in_ok-push.ensures.items, ← append_assoc (all_of now.shares.items) now.next.items (c.in-Some.source ∷ []))
    (rw (append_assoc (all_of now.shares.items ++ now.next.items), ← c.in-Some.ensures.steps.0, same) old.invariant)

pub returns : goal.returns
returns g c =
    let old = c.loop-source in
    let left = old.source-iterator in
    let all = all_yielded (all_of old.shares.items ++ old.next.items) (into_iter_items left) c.args.sources.items old.invariant (sym left.rest.ok.0 ∙ c.in-None.ensures.steps.0) in
    ap (λ (l : List (List _)). all_of l) c.in_ok-add-2.ensures ∙ (all_of_push old.shares.items old.next.items ∙ all)
