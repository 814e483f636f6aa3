use Rattle.gr_model.proofs.Common.{◌+◌, ◌<◌, length, sym, subst, IsFalse}
use Rattle.gr_model.specs.Prelude.{is_end}
use Rattle.gr_threads.specs.Senders.{Sending}
use Rattle.gr_threads.proofs.SenderLemmas.{after_push}
use Rattle.gr_threads.proofs.sender.Sender.push.Goals as goal

pub invariant_of-self-2 : goal.invariant_of-self-2
invariant_of-self-2 g c =
    after_push _ _ _ _ _ _ _ _ _ c.args.event c.self.invariant c.is_end-ends.ensures
    (subst (λ (s : Sending). IsFalse (is_end c.args.event) → length s.sent + 1 < s.records) (sym c.self.view_is) c.requires.room) c.in_default.ensures.ok
