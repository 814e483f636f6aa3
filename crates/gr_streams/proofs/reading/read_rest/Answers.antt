use Rattle.gr_model.proofs.Common.{◌∙◌, ◌++◌, append_assoc, arith, rules, take}
use Rattle.gr_record.proofs.Consuming.{Consumes-end, Consumes-then}
use Rattle.gr_record.proofs.Outside.{at_known}
use Rattle.gr_record.specs.Prelude.{HasMemory}
use Rattle.gr_streams.specs.Records.{events_at}
use Rattle.gr_streams.specs.Sending.{Tells}
use Rattle.gr_streams.proofs.ReadingLemmas.{end_tells, of_known, refused_tells, regroup, still_headed}
use Rattle.gr_streams.proofs.reading.read_rest.Goals as goal

pub returns-then-load-clause-tells : goal.returns-then-load-clause-tells
returns-then-load-clause-tells g c = λ fed h headed items f. rw c.fail.ensures.fault (grind arith)

pub returns-in-Err-clause-write : goal.returns-in-Err-clause-write
returns-in-Err-clause-write g c = rw c.fail-in-Err.ensures.fault (λ k. absurd cc)

pub returns-in-Err-clause-tells : goal.returns-in-Err-clause-tells
returns-in-Err-clause-tells g c = λ fed h headed items f. rw c.fail-in-Err.ensures.fault (grind arith)

pub returns-in-Err-take-clause-write : goal.returns-in-Err-take-clause-write
returns-in-Err-take-clause-write g c = rw c.fail-in-Err-take.ensures.fault c.of_stream.ensures.values.1

pub returns-clause-write : goal.returns-clause-write
returns-clause-write g c = rw c.fail-2.ensures.fault (λ k. absurd cc)

pub returns-clause-tells : goal.returns-clause-tells
returns-clause-tells g c = λ fed h headed items f. rw c.fail-2.ensures.fault (grind arith)

pub returns-in-Ok-eq0-clause-tells : goal.returns-in-Ok-eq0-clause-tells
returns-in-Ok-eq0-clause-tells g c = λ fed h headed items f.
    let inv = c.loop.invariant in
    let b = c.in-Ok-eq0.ensures.bytes in
    let end = c.finish.result in
    at_known _ inv.read (λ rest. Tells (events_at c.args.place (fed ++ rest)) end.receipt.pushed end.fault)
    (Consumes-end _ _ (g.T.Read.remaining c.read.new.self) inv.read c.read.new.buf _ inv.consumed b.0 c.in-Ok-eq0.field-0-test (b.1 c.in-Ok-eq0.field-0-test (omega arith)))
    (end_tells c.args.place (fed ++ inv.read) h c.loop.forward.decoder c.loop.forward.sender c.loop.forward.refused (inv.fed fed f) (still_headed h fed inv.read headed) (inv.same.items ∙ items) end.receipt.pushed end.fault c.finish.ensures.fault c.finish.ensures.whole)

pub returns-in-Err-take-clause-tells : goal.returns-in-Err-take-clause-tells
returns-in-Err-take-clause-tells g c = λ fed h headed items f.
    let inv = c.loop.invariant in
    let piece = take c.in-Ok.count c.read.new.buf in
    let end = c.fail-in-Err-take.result in
    let after = c.take.new.self in
    of_known _ (g.T.Read.remaining c.read.new.self) (inv.read ++ piece) (λ rest. Tells (events_at c.args.place (fed ++ rest)) end.receipt.pushed end.fault)
    (Consumes-then _ _ _ _ _ inv.consumed c.in-Ok.ensures.bytes.0)
    (λ rest.
    let tells = refused_tells c.args.place ((fed ++ inv.read) ++ piece) rest end.receipt.pushed after.decoder after.sender after.refused c.take.result c.in-Err-take.error c.in-Err-take.is c.take.ensures.fault (λ has. c.take.ensures.fed has (fed ++ inv.read) (inv.fed fed f)) in
    rw (c.fail-in-Err-take.ensures.fault, c.of_stream.ensures.exact, ← regroup fed inv.read piece rest) tells)

pub loop-preserved : goal.loop-preserved
loop-preserved g c =
    let inv = c.loop.invariant in
    let piece = take c.in-Ok.count c.read.new.buf in
    let has : HasMemory c.take.result = λ k. absurd cc in
    record {
      same = search rules;
      read = inv.read ++ piece;
      consumed = Consumes-then _ _ _ _ _ inv.consumed c.in-Ok.ensures.bytes.0;
      fed = λ fed f. rw (← append_assoc fed inv.read piece) (c.take.ensures.fed has (fed ++ inv.read) (inv.fed fed f));
    }
