use Rattle.gr_model.proofs.Common.{err_from_is_err_and}
use Rattle.gr_barriers.proofs.GroupLemmas.{more_few, set_more, set_same}
use Rattle.gr_barriers.proofs.group.Group.arrive.Goals as goal

pub invariant_of-self : goal.invariant_of-self
invariant_of-self g c = rw (set_same _ c.index_mut-marks.ensures.value c.self.view_is c.requires.item c.push.new.self c.in_err-push.ensures.items) c.self.invariant

pub returns-in_err-push-clause-err : goal.returns-in_err-push-clause-err
returns-in_err-push-clause-err g c =
    let p = err_from_is_err_and c.from_residual.result c.from_residual.ensures.1 in
    rw (p.1, set_same _ c.index_mut-marks.ensures.value c.self.view_is c.requires.item c.push.new.self c.in_err-push.ensures.items) c.self.view_is

pub invariant_of-self-2 : goal.invariant_of-self-2
invariant_of-self-2 g c = more_few _ c.index_mut-marks.ensures.value c.self.view_is c.requires.item c.push.new.self c.args.mark c.in_ok-push.ensures.items c.self.invariant c.requires.few

pub returns-clause-ok : goal.returns-clause-ok
returns-clause-ok g c = rw (← c.self.view_is, set_more _ c.index_mut-marks.ensures.value c.self.view_is c.requires.item c.push.new.self c.args.mark c.in_ok-push.ensures.items)
