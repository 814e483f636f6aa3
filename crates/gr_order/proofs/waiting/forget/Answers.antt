use Rattle.gr_model.proofs.Common.{◌∙◌, sym}
use Rattle.gr_order.proofs.WaitLemmas.{forgets_event}
use Rattle.gr_order.proofs.waiting.forget.Goals as goal

pub returns-then-not-is_end : goal.returns-then-not-is_end
returns-then-not-is_end g c = λ before keeps.
    forgets_event before c.args.group c.args.event.now c.args.windows.now c.pop_last.new.self (sym c.is_end.ensures ∙ c.if-not-is_end.true) keeps c.pop_last.ensures
