use Rattle.gr_model.proofs.Common.{map-set}
use Rattle.std.specs.Arc.{arc_value}
use Rattle.gr_clocks.proofs.pages.Pages.put.Goals as goal

pub returns-clause-put : goal.returns-clause-put
returns-clause-put g c = rw (← c.self.view_is, ← c.in_ok-self-inside.ensures.ok) (map-set arc_value c.self.inside.pages.items c.args.place c.in_ok-self-inside.field-0)
