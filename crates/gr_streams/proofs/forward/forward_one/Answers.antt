use Rattle.gr_model.proofs.Common.{subst}
use Rattle.gr_streams.specs.Sending.{AreSent}
use Rattle.gr_streams.proofs.SendingLemmas.{stuck_more}
use Rattle.gr_streams.proofs.forward.forward_one.Goals as goal

pub returns-then-refused-clause-sent : goal.returns-then-refused-clause-sent
returns-then-refused-clause-sent g c = λ events most sent.
    stuck_more c.args.sender.now.items events _ (subst (AreSent c.args.sender.now.items events c.args.sender.now.sent) c.if-refused.true sent)
