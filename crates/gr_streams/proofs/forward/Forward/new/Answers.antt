use Rattle.gr_model.proofs.Common.{arith}
use Rattle.gr_record.specs.Prelude.{read_from}
use Rattle.gr_streams.proofs.forward.Forward.new.Goals as goal

pub returns-clause-fed : goal.returns-clause-fed
unfolding read_from
returns-clause-fed g c = record {
  bytes = λ i. omega arith;
  limit = c.new.ensures.limit;
  stands = c.new.ensures.nothing;
  records = rw c.new-2.ensures c.requires.records;
  sent = rw c.new-2.ensures c.requires.sent;
}
