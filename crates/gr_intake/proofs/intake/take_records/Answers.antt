use Rattle.gr_model.proofs.Common.{◌≡◌, ◌<◌, ◌++◌, [], ℕ, List, Some, None, ap, refl, sym, subst, ◌∙◌, length, arith, append_assoc, length-append, length-map, length-take-le}
use Rattle.gr_record.specs.Prelude.{Fails, stream_fault, record_length, MOST_RECORDS}
use Rattle.gr_record.proofs.Loop as loop
use Rattle.gr_intake.specs.Intakes.{come, come_of, next_event_at, read_behind}
use Rattle.gr_intake.specs.Joined.{Flat}
use Rattle.gr_intake.proofs.Behind.{next_failed, split_more, split_whole, stream_ends, stream_goes_on}
use Rattle.gr_intake.proofs.Comings.{closes, goes_further, next_there, whole_closes, whole_stay_so}
use Rattle.gr_intake.proofs.Faults.{fault_at-fails}
use Rattle.gr_intake.proofs.intake.take_records.Goals as goal

-- one record more lies before the bytes that are left
further : (bytes front rest unit after : List ℕ) → bytes ≡ front ++ rest → rest ≡ unit ++ after → bytes ≡ (front ++ unit) ++ after
further bytes front rest unit after is parts = is ∙ (ap (λ (x : List ℕ). front ++ x) parts ∙ sym (append_assoc front unit after))

pub loop-rest-init : goal.loop-rest-init
loop-rest-init g c = record {
  read = c.requires.read;
  kept = c.requires.kept;
  goes = λ more. refl;
  left = ([], refl);
  size = rw c.header.ensures at c.record_length-size.ensures.length;
}

pub read-requires-clause-size : goal.read-requires-clause-size
read-requires-clause-size g c = ap length c.split_at.ensures.front ∙ (length-take-le _ c.loop-rest.rest.now (omega (arith, c.loop-rest-test.true)) ∙ c.loop-rest.invariant.size)

pub returns-in-Err-clause-fault : goal.returns-in-Err-clause-fault
returns-in-Err-clause-fault g c = λ more.
    let unit = c.split_at.result.0.now in
    let after = c.split_at.result.1.now in
    let rest = c.loop-rest.rest.now in
    let taken = c.loop-rest.sequencer.taken in
    let seen = come taken c.args.streams.now in
    let f = come_of taken c.loop-rest.current.backlog in
    let old = come c.args.sequencer.now.taken c.args.streams.now in
    let all : length unit ≡ record_length f.header.version = ap length c.split_at.ensures.front ∙ (length-take-le _ rest (omega (arith, c.loop-rest-test.true)) ∙ c.loop-rest.invariant.size) in
    let place : length seen ≡ length c.args.streams.now = length-map c.args.streams.now (come_of taken) in
    let whole = read_behind old (Some (come_of c.args.sequencer.now.taken c.args.current.now.backlog)) (c.args.bytes.now ++ more) in
    let next = next_event_at f.header c.loop-rest.current.count unit in
    subst (λ x. Fails x whole) (sym c.of_stream.ensures.exact)
    (subst (λ n. Fails (stream_fault n c.in-Err.error) whole) place
    (fault_at-fails (length seen) c.in-Err.error next whole (loop.fails c.in-Err.error next c.in-Err.ensures.fault)
    (λ k. c.loop-rest.invariant.goes more
    ∙ (ap (read_behind seen (Some f)) (split_more _ rest unit after more c.split_at.ensures.front c.split_at.ensures.back)
    ∙ next_failed seen f unit (after ++ more) c.in-Err.error all c.loop-rest.invariant.read.next.few (ap (λ n. next_event_at f.header n unit) (sym c.loop-rest.invariant.kept.count) ∙ k)))))

pub take-requires-clause-there : goal.take-requires-clause-there
take-requires-clause-there g c = (next_there _ _ _ _ c.loop-rest.invariant.read).0

pub take-requires-clause-size : goal.take-requires-clause-size
take-requires-clause-size g c = (next_there _ _ _ _ c.loop-rest.invariant.read).1

pub returns-then-is_end-clause-ends : goal.returns-then-is_end-clause-ends
returns-then-is_end-clause-ends g c = λ ended.
    let q = c.loop-rest.sequencer in
    let b = c.loop-rest.current.backlog in
    let next = c.in-Ok.ensures.next in
    let room : length (come_of q.taken b).events < MOST_RECORDS = omega (arith, c.loop-rest.invariant.kept.count, next.few) in
    closes q c.take.new.sequencer c.loop-rest.shadows c.take.new.shadows c.args.streams.now b c.take.new.self.backlog c.in-Ok.event c.loop-rest.invariant.read c.in-Ok-take.ensures.come c.in-Ok-take.ensures.sizes c.in-Ok-take.ensures.others c.in-Ok-take.ensures.sequence c.in-Ok-take.ensures.shadows room next.good (sym c.is_end-is_end.ensures ∙ c.if-is_end.true)

pub returns-then-is_end-clause-goes : goal.returns-then-is_end-clause-goes
returns-then-is_end-clause-goes g c = λ more.
    let q = c.loop-rest.sequencer in
    let b = c.loop-rest.current.backlog in
    let cs = c.args.streams.now in
    let seen = come q.taken cs in
    let f = come_of q.taken b in
    let unit = c.split_at.result.0.now in
    let after = c.split_at.result.1.now in
    let rest = c.loop-rest.rest.now in
    let next = c.in-Ok.ensures.next in
    let all : length unit ≡ record_length b.header.version = ap length c.split_at.ensures.front ∙ (length-take-le _ rest (omega (arith, c.loop-rest-test.true)) ∙ c.loop-rest.invariant.size) in
    let room : length f.events < MOST_RECORDS = omega (arith, c.loop-rest.invariant.kept.count, next.few) in
    let whole = whole_closes q c.take.new.sequencer c.loop-rest.shadows c.take.new.shadows cs b c.take.new.self.backlog c.in-Ok.event c.loop-rest.invariant.read c.in-Ok-take.ensures.come c.in-Ok-take.ensures.sizes c.in-Ok-take.ensures.others c.in-Ok-take.ensures.sequence c.in-Ok-take.ensures.shadows room next.good in
    c.loop-rest.invariant.goes more
    ∙ (ap (read_behind seen (Some f)) (split_more _ rest unit after more c.split_at.ensures.front c.split_at.ensures.back)
    ∙ (stream_ends seen f unit (after ++ more) all room c.in-Ok.event next.read (sym c.is_end-is_end.ensures ∙ c.if-is_end.true)
    ∙ ap (λ (fs : List Flat). read_behind fs None (after ++ more)) (sym whole)))

pub returns-then-is_end-clause-left : goal.returns-then-is_end-clause-left
returns-then-is_end-clause-left g c =
    let unit = c.split_at.result.0.now in
    let rest = c.loop-rest.rest.now in
    let left = c.loop-rest.invariant.left in
    let some : 0 < length unit = omega (arith, ap length c.split_at.ensures.front, length-take-le c.record_length-size.result rest (omega (arith, c.loop-rest-test.true)), c.record_length-size.ensures.some) in (
      left.0 ++ unit,
      further c.args.bytes.now left.0 rest unit c.split_at.result.1.now left.1 (split_whole _ rest unit _ c.split_at.ensures.front c.split_at.ensures.back),
      λ ended. omega (arith, length-append left.0 unit, some),
    )

pub loop-rest-preserved : goal.loop-rest-preserved
loop-rest-preserved g c =
    let q = c.loop-rest.sequencer in
    let new = c.take.new.sequencer in
    let b = c.loop-rest.current.backlog in
    let d = c.take.new.self.backlog in
    let cs = c.args.streams.now in
    let seen = come q.taken cs in
    let f = come_of q.taken b in
    let unit = c.split_at.result.0.now in
    let after = c.split_at.result.1.now in
    let rest = c.loop-rest.rest.now in
    let left = c.loop-rest.invariant.left in
    let next = c.in-Ok.ensures.next in
    let all : length unit ≡ record_length b.header.version = ap length c.split_at.ensures.front ∙ (length-take-le _ rest (omega (arith, c.loop-rest-test.true)) ∙ c.loop-rest.invariant.size) in
    let room : length f.events < MOST_RECORDS = omega (arith, c.loop-rest.invariant.kept.count, next.few) in
    let on = sym c.is_end-is_end.ensures ∙ c.if-is_end.false in
    let came = c.in-Ok-take.ensures.come in
    let stay = whole_stay_so q new c.loop-rest.shadows c.take.new.shadows cs b d c.in-Ok.event c.loop-rest.invariant.read came c.in-Ok-take.ensures.sizes c.in-Ok-take.ensures.others c.in-Ok-take.ensures.sequence c.in-Ok-take.ensures.shadows room next.good in
    record {
      read = goes_further q new c.loop-rest.shadows c.take.new.shadows cs b d c.in-Ok.event c.loop-rest.invariant.read came c.in-Ok-take.ensures.sizes c.in-Ok-take.ensures.others c.in-Ok-take.ensures.sequence c.in-Ok-take.ensures.shadows room next.good on;
      kept = c.in-Ok-take.ensures.kept;
      goes = λ more.
          c.loop-rest.invariant.goes more
          ∙ (ap (read_behind seen (Some f)) (split_more _ rest unit after more c.split_at.ensures.front c.split_at.ensures.back)
          ∙ (stream_goes_on seen f unit (after ++ more) all room c.in-Ok.event next.read on
          ∙ (ap (λ (x : Flat). read_behind seen (Some x) (after ++ more)) (sym came) ∙ ap (λ (fs : List Flat). read_behind fs (Some (come_of new.taken d)) (after ++ more)) (sym stay))));
      left = (left.0 ++ unit, further c.args.bytes.now left.0 rest unit after left.1 (split_whole _ rest unit after c.split_at.ensures.front c.split_at.ensures.back));
      size = c.loop-rest.invariant.size ∙ ap (λ (x : Flat). record_length x.header.version) (sym came);
    }
