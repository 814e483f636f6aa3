use Rattle.gr_model.proofs.Common.{ap, ◌∙◌, length}
use Rattle.gr_model.specs.Prelude.{is_complete}
use Rattle.gr_threads.specs.Senders.{Sending}
use Rattle.gr_threads.proofs.sender.Sender.send.Goals as goal

pub push-requires-clause-good : goal.push-requires-clause-good
push-requires-clause-good g c =
    let view = c.self.view_is in
    let is = c.self.invariant in
    (c.in-None.ensures.cause c.args.self.now (is.mark ∙ ap (λ (s : Sending). is_complete s.sent) view) (ap (λ (s : Sending). s.items) view) (is.count ∙ ap (λ (s : Sending). length s.sent) view) (ap (λ (s : Sending). s.records) view)).sendable.1
