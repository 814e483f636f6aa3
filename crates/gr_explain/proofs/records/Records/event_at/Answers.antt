use Rattle.gr_model.proofs.Common.{arith}
use Rattle.gr_explain.proofs.RecordLemmas.{found_at_place, none_without_place, read_is}
use Rattle.gr_explain.proofs.records.Records.event_at.Goals as goal

pub returns-in_err-place : goal.returns-in_err-place
returns-in_err-place g c = grind (arith, none_without_place c.self.inside.traces.now c.self.inside.indices.items c.self.invariant c.args.event c.in_ok-index.index.now)

pub returns : goal.returns
returns g c = grind (arith, read_is c.list.result.now c.in_ok-place.place c.get-2.result c.get-2.ensures.lookup.3, found_at_place c.self.inside.traces.now c.self.inside.indices.items c.self.invariant c.args.event c.in_ok-index.index.now)
