use Rattle.gr_model.proofs.Common.{arith}
use Rattle.gr_clocks.specs.Counts.{count_of}
use Rattle.gr_order.proofs.ReadyLemmas.{none_next}
use Rattle.gr_agenda.proofs.Named.{next_there}
use Rattle.gr_agenda.proofs.agenda.is_idle.Goals as goal

pub returns-in-Item-clause-none : goal.returns-in-Item-clause-none
returns-in-Item-clause-none g c idle =
    let i = c.in-Item.item in
    let frontier = c.frontier-frontier.result.now in
    let none = none_next _ _ c.sequence_holds.ensures.lawful frontier c.frontier-frontier.ensures.first (record { at = i; index = count_of frontier i }) in
    rw c.in-Item.is (grind (arith, none, c.waiting.ensures, c.is_none.ensures))

pub returns-in-Item-clause-free : goal.returns-in-Item-clause-free
returns-in-Item-clause-free g c idle d n at held =
    let none = next_there c.frontier-frontier.result.now c.frontier-frontier.ensures.first held c.in-Item.item in
    grind (arith, none, c.in-Item.is, c.waiting.ensures, c.is_none.ensures)
