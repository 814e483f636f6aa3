use Rattle.gr_model.proofs.Common.{◌∙◌, ◌++◌, arith}
use Rattle.gr_record.specs.Prelude.{reading, AreBytes, MOST_RECORDS}
use Rattle.gr_streams.proofs.SendingLemmas.{bytes_append, piece_events}
use Rattle.gr_streams.proofs.forward.Forward.take.Goals as goal

pub returns-clause-fed : goal.returns-clause-fed
returns-clause-fed g c = λ has fed f.
    let piece = c.args.piece.now in
    let fits : AreBytes piece = λ i. let b = c.type_inv.piece i in omega arith in
    let grown = rw f.limit at (c.feed-outcome.ensures.parts has fed f.stands) in
    let events = piece_events (reading MOST_RECORDS fed) (reading MOST_RECORDS (fed ++ piece)) c.clear.new.self.items c.feed-outcome.new.parts.items c.clear.ensures.items grown in
    let sent = rw c.as_slice.ensures.value at (c.forward_all-self.ensures.sent (reading MOST_RECORDS fed).events f.records f.sent) in
    record {
      bytes = bytes_append fed piece f.bytes fits;
      limit = c.feed-outcome.ensures.limit ∙ f.limit;
      stands = c.feed-outcome.ensures.stands has fed f.stands;
      records = rw c.flush.ensures (c.forward_all-self.ensures.same.records ∙ f.records);
      sent = rw (c.flush.ensures, events) sent;
    }
