use Rattle.gr_model.proofs.Common.{◌≡◌, err_from_is_err_and, length-map, refl, rules, slice_get}
use Rattle.gr_record.proofs.Outside.{fails_through}
use Rattle.gr_intake.specs.Joined.{header_after, headers_in, stream_at}
use Rattle.gr_intake.proofs.Comings.{may_follow}
use Rattle.gr_intake.proofs.Faults.{fault_at-fails}
use Rattle.gr_replay.specs.InMemory.{flats}
use Rattle.gr_replay.proofs.Joining.{count, first_header}
use Rattle.gr_replay.proofs.joined.read_stream.Goals as goal

pub returns-in_err-header-clause-exact : goal.returns-in_err-header-clause-exact
unfolding stream_at
returns-in_err-header-clause-exact g c =
    let ss = c.args.streams.now in
    let p = err_from_is_err_and c.from_residual.result c.from_residual.ensures.1 in
    let first : slice_get (headers_in (flats ss)) 0 ≡ c.map-first.result = search (rules, first_header) in
    let fails = c.in_err-header.ensures.exact (headers_in (flats ss)) (count ss) first c.requires.seen in
    rw (p.1, p.2) (fails_through _ (header_after (headers_in (flats ss)) c.args.bytes.now) (stream_at (flats ss) c.args.bytes.now) fails (λ e. rw e refl))

pub returns-in-Ok-clause-exact : goal.returns-in-Ok-clause-exact
unfolding stream_at
returns-in-Ok-clause-exact g c =
    let ss = c.args.streams.now in
    let first : slice_get (headers_in (flats ss)) 0 ≡ c.map-first.result = search (rules, first_header) in
    let after = c.in_ok-header.ensures.exact (headers_in (flats ss)) (count ss) first c.requires.seen in
    rw (after, c.in-Ok.ensures) refl

pub returns-in-Ok-clause-follows : goal.returns-in-Ok-clause-follows
returns-in-Ok-clause-follows g c =
    let ss = c.args.streams.now in
    let first : slice_get (headers_in (flats ss)) 0 ≡ c.map-first.result = search (rules, first_header) in
    may_follow (headers_in (flats ss)) _ _ _ (c.in_ok-header.ensures.exact (headers_in (flats ss)) (count ss) first c.requires.seen) c.in_ok-header.ensures.header

pub returns-in-Err-clause-exact : goal.returns-in-Err-clause-exact
unfolding stream_at
returns-in-Err-clause-exact g c =
    let ss = c.args.streams.now in
    let first : slice_get (headers_in (flats ss)) 0 ≡ c.map-first.result = search (rules, first_header) in
    let after = c.in_ok-header.ensures.exact (headers_in (flats ss)) (count ss) first c.requires.seen in
    rw c.of_stream.ensures.exact (fault_at-fails _ _ _ _ c.in-Err.ensures (λ k. rw (after, k, length-map) refl))
