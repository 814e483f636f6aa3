use Rattle.gr_model.proofs.Common.{◌≡◌, ◌∙◌, ◌++◌, ap, append_assoc, sym}
use Rattle.gr_route.specs.Batches.{all_of}
use Rattle.gr_route.proofs.BatchLemmas.{all_of_push}
use Rattle.gr_taking.specs.Sources.{ListedRecords}
use Rattle.gr_sequencer_thread.specs.Feeds.{left_of}
use Rattle.gr_sequencer_thread.proofs.backlog.Backlog.push.Goals as goal

pub returns-clause-ok : goal.returns-clause-ok
returns-clause-ok g c =
    let left = left_of c.self.inside.batch c.self.inside.taken in
    let later = c.self.inside.later.items in
    let events = c.args.events in
    let more : left ++ all_of c.push_back.new.self.items ≡ (left ++ all_of later) ++ events =
    ap (λ l. left ++ all_of l) c.in_ok-push_back.ensures.items ∙ (ap (λ l. left ++ l) (all_of_push later events) ∙ sym (append_assoc left (all_of later) events)) in
    (λ i. record { group = c.self.inside.group; records = more i }) ∙ ap (λ (b : ListedRecords). record { group = b.group; records = b.records ++ events }) c.self.view_is
