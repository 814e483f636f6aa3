use Rattle.gr_model.proofs.Common.{◌≡◌, map, range_with_len}
use Rattle.gr_model.specs.Prelude.{list_of}
use Rattle.gr_taking.proofs.traces.sources_of.Given as goal

abbrev pub invariant-loop-group : goal.invariant-loop-group
invariant-loop-group g l = l.sources.items ≡ map (λ k. record { group = k; records = map (g.R.Reading.read_as l.reading) (list_of l.traces k) }) (range_with_len 0 l.group)
