use Rattle.gr_model.proofs.Common.{◌≤◌, ◌∙◌, ◌++◌, ◌∷◌, [], List, ℕ, ap, subst}
use Rattle.gr_model.specs.declared.event.Event.{Event}
use Rattle.gr_model.specs.declared.limits.TheConstants.{MOST_RECORDS}
use Rattle.gr_threads.specs.Refusals.{MaySend}
use Rattle.gr_threads.specs.Senders.{Sending, with_waiting}
use Rattle.gr_threads.proofs.BatchLemmas.{same_end, sent_so, waits_so}
use Rattle.gr_threads.proofs.batching.BatchSender.send_wait.Goals as goal

pub returns-in-Ok-clause-accepted : goal.returns-in-Ok-clause-accepted
returns-in-Ok-clause-accepted g c =
    subst (λ (y : Sending). MaySend y c.args.event) c.self.view_is
    (c.in_default.ensures.cause (with_waiting c.self.inside.sender c.self.inside.waiting) (c.is_closed-closed.ensures ∙ same_end _ _ _ c.self.invariant) c.items-items.ensures.items c.self.invariant.count c.records.ensures.records)

pub invariant_of-self : goal.invariant_of-self
invariant_of-self g c =
    let may = c.in_default.ensures.cause (with_waiting c.self.inside.sender c.self.inside.waiting) (c.is_closed-closed.ensures ∙ same_end _ _ _ c.self.invariant) c.items-items.ensures.items c.self.invariant.count c.records.ensures.records in
    let limit = subst (λ (n : ℕ). n ≤ MOST_RECORDS) c.records.ensures.records c.records.ensures.limit in
    waits_so _ _ _ c.args.event c.self.invariant may limit _ c.in-Ok.ensures.ok

pub invariant_of-self-in-Err : goal.invariant_of-self-in-Err
invariant_of-self-in-Err g c =
    let may = c.in_default.ensures.cause (with_waiting c.self.inside.sender c.self.inside.waiting) (c.is_closed-closed.ensures ∙ same_end _ _ _ c.self.invariant) c.items-items.ensures.items c.self.invariant.count c.records.ensures.records in
    let limit = subst (λ (n : ℕ). n ≤ MOST_RECORDS) c.records.ensures.records c.records.ensures.limit in
    let pushed = c.push_waiting.ensures.sent ∙ ap (λ (l : List Event). with_waiting c.self.inside.sender l) c.in-Err.ensures.unchanged in
    sent_so _ _ _ c.args.event c.self.invariant may limit _ _ (c.in_ok-send_wait-in-Err.ensures.ok ∙ ap (λ (y : Sending). record y { sent = y.sent ++ c.args.event ∷ [] }) pushed) (c.find_list.ensures ∙ c.push_waiting.ensures.none)
