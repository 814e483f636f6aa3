use Rattle.gr_model.proofs.Common.{arith, err_from_is_err_and, IfOk-weaker, IfErr-weaker}
use Rattle.gr_replay.proofs.Apart.{at_all_known}
use Rattle.gr_replay.proofs.each.read_each.Goals as goal

pub returns-in_err-streams-clause-fault : goal.returns-in_err-streams-clause-fault
returns-in_err-streams-clause-fault g c = grind (arith, err_from_is_err_and, at_all_known, c.as_slice.ensures.value, c.in_err-streams.ensures.exact, c.in_ok-inputs.ensures.bytes)

pub returns-clause-launch : goal.returns-clause-launch
returns-clause-launch g c = grind (arith, IfOk-weaker, at_all_known, c.as_slice.ensures.value, c.in_ok-streams.ensures.exact, c.in_ok-inputs.ensures.bytes)

pub returns-clause-fault : goal.returns-clause-fault
returns-clause-fault g c = grind (arith, IfErr-weaker, at_all_known, c.as_slice.ensures.value, c.in_ok-streams.ensures.exact, c.in_ok-inputs.ensures.bytes)
