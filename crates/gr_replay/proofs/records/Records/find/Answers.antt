use Rattle.gr_model.proofs.Common.{◌≡◌, ℕ, List, Ok, Err, Result, ap}
use Rattle.gr_replay.specs.Types.{Event, RecordError}
use Rattle.gr_record.specs.Prelude.{◌>>=◌, front_records_at}
use Rattle.gr_replay.specs.Standing.{events_in}
use Rattle.gr_replay.proofs.records.Records.find.Goals as goal

-- bytes that have an end have the records before it
found : (whole : Result (List Event × List ℕ) RecordError) (rest : List ℕ) → (whole >>= λ x. Ok x.1) ≡ Ok rest → whole ≡ Ok (events_in whole, rest)
found (Ok x) rest is =
    let same : x.1 ≡ rest = cc in
    ap (λ (bytes : List ℕ). Ok (x.0, bytes)) same
found (Err e) rest is = absurd cc

pub invariant_of-result : goal.invariant_of-result
invariant_of-result c = (c.in_ok-rest.rest.now, found (front_records_at c.args.header c.args.bytes.now) c.in_ok-rest.rest.now c.in_ok-rest.ensures.exact)
