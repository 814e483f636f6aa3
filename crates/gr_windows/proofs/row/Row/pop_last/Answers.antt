use Rattle.gr_model.proofs.Common.{◌-◌, ◌∙◌, ap, arith, length, refl, length-take-le}
use Rattle.std.specs.Int.{from_bool}
use Rattle.gr_windows.proofs.RowLemmas.{less_kept}
use Rattle.gr_windows.proofs.row.Row.pop_last.Goals as goal

pub invariant_of-self : goal.invariant_of-self
invariant_of-self g c = less_kept c.self.invariant c.self.view_is c.from.ensures (omega (arith, c.self.inside.windows.ok.0, c.in-Some.ensures.variant.0 refl)) c.in-Some.ensures.value c.pop_last.new.self c.from-in-Some.result (ap length c.pop_last.ensures.rest ∙ length-take-le (length c.in-Some.window.now - 1) c.in-Some.window.now (omega arith)) (c.from-in-Some.ensures ∙ ap from_bool c.pop_last.ensures.only)
