use Rattle.gr_model.proofs.Common.{inr, arith}
use Rattle.gr_agenda.proofs.ListLemmas.{among_last, among_more, marked_more}
use Rattle.gr_agenda.proofs.worklist.Worklist.put.Goals as goal

pub returns-then-is_marked-clause-there : goal.returns-then-is_marked-clause-there
returns-then-is_marked-clause-there g c =
    let m = c.is_marked.ensures c.if-is_marked.true in
    rw (← c.self.view_is) (inr (c.self.invariant c.args.step m.0 m.1 (rw c.deref.ensures.value at m.2)))

pub invariant_of-self : goal.invariant_of-self
invariant_of-self g c =
    let inside = c.self.inside in
    marked_more inside.marks.items c.mark.new.marks.items inside.steps.items c.push.new.self.items c.args.step c.self.invariant c.in-Ok.ensures.items c.mark.ensures

pub returns-in-Ok-clause-there : goal.returns-in-Ok-clause-there
returns-in-Ok-clause-there g c = grind (arith, among_last c.self.inside.steps.items c.args.step, c.in-Ok.ensures.items)

pub returns-in-Ok-clause-keeps : goal.returns-in-Ok-clause-keeps
returns-in-Ok-clause-keeps g c r has = grind (arith, among_more c.self.inside.steps.items c.args.step r, c.in-Ok.ensures.items, c.self.view_is)
