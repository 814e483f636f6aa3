use Rattle.gr_model.proofs.Common.{ap, ◌∙◌, err_from_is_err_and}
use Rattle.gr_lanes.specs.Indices.{remembered_of}
use Rattle.gr_lanes.proofs.GroupLemmas.{taken_groups, taken_is, unmoved}
use Rattle.gr_lanes.proofs.lanes.Lanes.take_accepted.Goals as goal

pub invariant_of-self-2 : goal.invariant_of-self-2
invariant_of-self-2 g c = taken_groups c.self.invariant c.self.view_is c.from.ensures c.index_mut.ensures.value c.requires.can c.requires.good c.requires.room c.in_ok-take.ensures.ok

pub returns-clause-ok : goal.returns-clause-ok
returns-clause-ok g c = taken_is c.self.invariant c.self.view_is c.from.ensures c.index_mut.ensures.value c.requires.can c.requires.good c.requires.room c.in_ok-take.ensures.ok

pub returns-clause-prefixes : goal.returns-clause-prefixes
returns-clause-prefixes g c = (invariant_of-self-2 g c).prefixes

pub returns-in_err-take-clause-unchanged : goal.returns-in_err-take-clause-unchanged
returns-in_err-take-clause-unchanged g c =
    let p = err_from_is_err_and c.from_residual.result c.from_residual.ensures.1 in
    rw (p.1) (ap (remembered_of c.self.inside.shape) (unmoved c.self.invariant c.self.view_is c.from.ensures c.index_mut.ensures.value c.in_err-take.ensures.err) ∙ c.self.view_is)
