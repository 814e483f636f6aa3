use Rattle.gr_model.proofs.Common.{◌≡◌, ◌∙◌, ◌<◌, ◌++◌, ◌∷◌, [], List, ap, arith, get_or, length, length-append, sym, ⊎_elim, get_or-append, get_or-append_seam, cases_lt}
use Rattle.gr_model.specs.declared.event.Event.{Event}
use Rattle.gr_route.specs.Batches.{all_of}
use Rattle.gr_taking.specs.Sources.{ListedRecords}
use Rattle.gr_sequencer_thread.proofs.backlog.backlogs_of.Goals as goal

pub loop-group-preserved : goal.loop-group-preserved
loop-group-preserved g c =
    let was = c.loop-group.backlogs.items in
    let one : ListedRecords = record { group = c.loop-group.group; records = [] } in
    let count = c.loop-group.invariant.count in
    let none : all_of c.new.result.items ≡ [] = ap all_of c.new.ensures.items in
    let now : c.push.new.self.items ≡ was ++ one ∷ [] = c.in_ok-push.ensures.items ∙ ap (λ (l : List Event). was ++ record { group = c.loop-group.group; records = l } ∷ []) none in
    record {
      count = ap length now ∙ (let n = length-append was (one ∷ []) in omega (arith, n, count));
      each = λ k d lt. ap (λ l. get_or l k d) now ∙ ⊎_elim
          (λ (below : k < length was). get_or-append was (one ∷ []) d k below ∙ c.loop-group.invariant.each k d below)
          (λ above. let last : k ≡ length was = (let n = ap length now in let m = length-append was (one ∷ []) in omega (arith, lt, above, n, m)) in
          ap (λ n. get_or (was ++ one ∷ []) n d) last ∙ (get_or-append_seam was one [] d ∙ ap (λ n. record { group = n; records = [] }) (sym count ∙ sym last)))
          (cases_lt k (length was));
    }
