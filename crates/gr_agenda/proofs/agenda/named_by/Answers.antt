use Rattle.gr_model.proofs.Common.{◌∙◌, arith, sym}
use Rattle.gr_agenda.proofs.Named.{next_held_by, next_there}
use Rattle.gr_agenda.proofs.agenda.named_by.Goals as goal

pub returns-in_err-event : goal.returns-in_err-event
returns-in_err-event g c d n held at =
    let none = next_there c.frontier-frontier.result.now c.frontier-frontier.ensures.first held c.args.item at in
    grind (arith, none, c.waiting.ensures, c.in_err-event.was)

pub returns : goal.returns
returns g c d n held at =
    let frontier = c.frontier-frontier.result.now in
    let first = c.frontier-frontier.ensures.first in
    let there = sym (c.waiting.ensures frontier first) ∙ c.in_ok-event.was in
    next_held_by frontier first held c.args.item at c.in_ok-event.event there c.first_unhandled.result c.first_unhandled.ensures
