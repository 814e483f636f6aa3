use Rattle.gr_model.proofs.Common.{◌++◌, ◌∷◌, [], List, ap, refl}
use Rattle.gr_route.specs.declared.work.Work.{Work}
use Rattle.gr_route.specs.declared.work.Work.TheVariants.{Access}
use Rattle.gr_sequencer_thread.specs.Feeds.{work_on_way}
use Rattle.gr_sequencer_thread.proofs.WayLemmas.{both_unstopped, way_more}
use Rattle.gr_sequencer_thread.proofs.way.Way.add.Goals as goal

pub invariant_of-self : goal.invariant_of-self
invariant_of-self g c = rw (c.in-Ok.ensures.ok, way_more) (both_unstopped (work_on_way c.self.inside.refused c.self.inside.batches.items c.self.inside.waiting) (Access c.args.access ∷ []) c.self.invariant refl)

pub returns-in-Ok : goal.returns-in-Ok
returns-in-Ok g c = rw (c.in-Ok.ensures.ok, way_more) (ap (λ (l : List (Work g.row.A.Denot)). l ++ Access c.args.access ∷ []) c.self.view_is)
