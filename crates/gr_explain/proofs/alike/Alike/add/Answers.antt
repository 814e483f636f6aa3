use Rattle.gr_model.proofs.Common.{arith}
use Rattle.gr_shadow.specs.Lent.{lent_clocked}
use Rattle.gr_shadow.specs.Clashes.{event_of}
use Rattle.gr_explain.proofs.AlikeLemmas.{events_of, inserted, only_kept}
use Rattle.gr_explain.proofs.alike.Alike.add.Goals as goal

pub returns-clause-events : goal.returns-clause-events
returns-clause-events g c = grind (arith, inserted c.self.inside.indexes.entries c.insert.new.self.entries c.args.access.now.item c.args.access.now.index c.greatest.result)

pub invariant_of-self-2 : goal.invariant_of-self-2
invariant_of-self-2 g c = grind (arith, inserted c.self.inside.indexes.entries c.insert.new.self.entries c.args.access.now.item c.args.access.now.index c.greatest.result, only_kept c.self.inside.only (events_of c.self.inside.indexes.entries) (events_of c.insert.new.self.entries) (event_of (lent_clocked c.args.access.now)) c.self.invariant)
