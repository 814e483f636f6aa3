use Rattle.gr_model.proofs.Common.{arith}
use Rattle.gr_agenda.proofs.ListLemmas.{has_less}
use Rattle.gr_agenda.proofs.worklist.Worklist.drop_last.Goals as goal

pub returns-in-Some : goal.returns-in-Some
returns-in-Some g c r has apart =
    let inside = c.self.inside in
    let less = has_less (record { steps = inside.steps.items; short = inside.short }) c.pop.new.self.items c.in-Some.step c.in-Some.ensures.items r in
    grind (arith, less, c.self.view_is)
