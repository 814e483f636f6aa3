use Rattle.gr_model.proofs.Common.{◌∙◌, ◌++◌, append_assoc, rules, sym, take, take_all}
use Rattle.gr_streams.specs.Sending.{events_in}
use Rattle.gr_streams.proofs.SendingLemmas.{next_part}
use Rattle.gr_streams.proofs.forward.forward_all.Goals as goal

pub loop-part-preserved : goal.loop-part-preserved
loop-part-preserved g c =
    let inv = c.loop-part.invariant in
    let i = c.loop-part.part-index in
    let parts = c.args.parts.now in
    record {
      same = search rules;
      sent = λ events most sent.
          rw (next_part parts i c.part-item.result c.loop-part-test.true (sym c.part-item.is), ← append_assoc events (events_in (take i parts)))
          (c.forward_part-stuck.ensures.sent (events ++ events_in (take i parts)) (inv.same.records ∙ most) (inv.sent events most sent));
    }

pub returns-clause-sent : goal.returns-clause-sent
returns-clause-sent g c = λ events most sent.
    rw (take_all c.loop-part.part-index c.args.parts.now c.loop-part-test.false) at (c.loop-part.invariant.sent events most sent)
