use Rattle.gr_model.proofs.Common.{◌∙◌, ◌++◌, [], ap}
use Rattle.gr_record.specs.Prelude.{HasMemory}
use Rattle.gr_threads.specs.Senders.{Sending}
use Rattle.gr_streams.specs.Records.{events_at}
use Rattle.gr_streams.specs.Sending.{Tells}
use Rattle.gr_streams.proofs.HeadingLemmas.{if_mapped}
use Rattle.gr_streams.proofs.ReadingLemmas.{known_prefix, refused_tells, whole_prefix}
use Rattle.gr_streams.proofs.reading.read_on.Goals as goal

pub returns-in-Err-clause-tells : goal.returns-in-Err-clause-tells
returns-in-Err-clause-tells g c =
    let prefix = c.args.stream.source.prefix.items in
    let after = c.take.new.self in
    let end = c.fail.result in
    known_prefix _ prefix (λ bytes. Tells (events_at c.args.stream.place bytes) end.receipt.pushed end.fault)
    (λ rest.
    let tells = refused_tells c.args.stream.place prefix rest end.receipt.pushed after.decoder after.sender after.refused c.take.result c.in-Err.error c.in-Err.is c.take.ensures.fault (λ has. rw c.as_slice.ensures.value at (c.take.ensures.fed has [] c.new-forward.ensures.fed)) in
    rw (c.fail.ensures.fault, c.of_stream.ensures.exact) tells)

pub returns-clause-tells : goal.returns-clause-tells
returns-clause-tells g c =
    let prefix = c.args.stream.source.prefix.items in
    let end = c.read_rest.result in
    let has : HasMemory c.take.result = λ k. absurd cc in
    let fed = rw c.as_slice.ensures.value at (c.take.ensures.fed has [] c.new-forward.ensures.fed) in
    if_mapped (λ rest. prefix ++ rest) (λ bytes. Tells (events_at c.args.stream.place bytes) end.receipt.pushed end.fault) _
    (c.read_rest.ensures.tells prefix c.args.stream.source.header (whole_prefix c.args.stream.source.header prefix c.requires.headed) (c.take.ensures.same.items ∙ (ap (λ (s : Sending). s.items) c.new-forward.ensures.sender ∙ c.requires.ready.items)) fed)
