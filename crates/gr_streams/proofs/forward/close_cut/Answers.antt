use Rattle.gr_streams.proofs.SendingLemmas.{is_closed}
use Rattle.gr_streams.proofs.forward.close_cut.Goals as goal

pub returns-clause-closed : goal.returns-clause-closed
returns-clause-closed g c = is_closed c.args.sender.now c.close_wait.new.self c.close_wait.result c.close_wait.ensures.ok c.close_wait.ensures.unchanged c.close_wait.ensures.refused c.close_wait.ensures.never_full
