use Rattle.gr_model.proofs.Common.{arith}
use Rattle.gr_intake.specs.Intakes.{come_of}
use Rattle.gr_intake.proofs.Comings.{can_take_open, one_more_counts, taken_comes}
use Rattle.gr_intake.proofs.open.Open.take.Goals as goal

pub take_record-requires-clause-can : goal.take_record-requires-clause-can
take_record-requires-clause-can g c = grind (arith, can_take_open, c.requires.there, c.requires.size, c.requires.events)

pub returns-clause-come : goal.returns-clause-come
returns-clause-come g c = grind (arith, taken_comes, c.requires.kept.waits)

pub returns-clause-kept : goal.returns-clause-kept
returns-clause-kept g c =
    let s = c.args.sequencer.now.taken in
    let b = c.args.self.now.backlog in
    record {
      count = one_more_counts (come_of s b) (come_of c.take_record.new.sequencer.taken b) c.args.event c.args.self.now.count c.requires.kept.count (returns-clause-come g c);
      waits = λ _. c.requires.kept.waits c.if-self.false;
    }
