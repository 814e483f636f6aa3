use Rattle.gr_model.proofs.Common.{◌∙◌, ◌++◌, ◌∷◌, [], sym, ap}
use Rattle.gr_model.specs.Prelude.{end_of, is_complete}
use Rattle.gr_threads.specs.Senders.{Sending}
use Rattle.gr_threads.proofs.BatchLemmas.{ended_so, ends}
use Rattle.gr_threads.proofs.batching.BatchSender.close_wait.Goals as goal

pub invariant_of-self : goal.invariant_of-self
invariant_of-self g c =
    let is = c.self.invariant in
    let pushed = c.push_waiting.ensures.sent in
    let open_then = ap (λ (y : Sending). is_complete y.sent) pushed ∙ (is.unended (sym c.is_closed.ensures ∙ c.if-is_closed.false)).after in
    let now = ends c.close_wait.result c.push_waiting.new.sender c.args.cut open_then c.close_wait.ensures.refused c.close_wait.ensures.never_full c.close_wait.ensures.ok in
    ended_so _ _ _ _ _ c.args.cut is (now ∙ ap (λ (y : Sending). record y { sent = y.sent ++ end_of c.args.cut ∷ [] }) pushed) c.push_waiting.ensures.none
