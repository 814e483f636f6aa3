use Rattle.gr_model.proofs.Common.{◌≡◌, rules}
use Rattle.std.specs.Prelude.{ltb}
use Rattle.std.proofs.lemmas.List.Sorted.{IsPartitionPoint-from_clause, IsPartitionedBy-ltb}
use Rattle.gr_explain.proofs.IndexLemmas.{first_at}
use Rattle.gr_explain.proofs.indices.Indices.first_from.Goals as goal

pub returns : goal.returns
returns g c =
    let indices = c.as_slice-indices.result.now in
    let same : indices ≡ c.args.self.now = search rules in
    let point = IsPartitionPoint-from_clause (λ n. ltb n c.args.least) indices c.partition_point-place.result c.partition_point-place.ensures.partitioned
    (IsPartitionedBy-ltb (λ n. n) indices c.args.least (rw same (rw (← c.self.view_is) c.self.invariant))) (λ a r q k. search rules) in
    rw (c.copied.ensures, ← same) (first_at indices c.args.least c.partition_point-place.result c.get.result point (rw same (rw (← c.self.view_is) c.self.invariant)) c.get.ensures.lookup.3)
