use Rattle.gr_model.proofs.Common.{refl, sym, arith}
use Rattle.gr_model.specs.declared.event.EventId.{EventId}
use Rattle.gr_agenda.proofs.agenda.is_handled.Goals as goal

pub returns-in-Some : goal.returns-in-Some
returns-in-Some g c =
    let name = c.args.name in
    let release : EventId = record { at = name.at; index = c.in-Some.index } in
    let place = rw c.lanes.ensures.taken at (sym c.in-Some.ensures) in (
      λ covered. (release, refl, place, (c.frontier-frontier.ensures.first release).1 (c.covers.ensures.0 covered)),
      λ there. grind (arith, c.frontier-frontier.ensures.first there.0, c.covers.ensures.1, place),
    )
