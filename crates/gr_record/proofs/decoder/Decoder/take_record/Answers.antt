use Rattle.gr_model.proofs.Common.{Err, refl, sym, ap, ◌∙◌, arith}
use Rattle.gr_record.proofs.Judging.{event_apart}
use Rattle.gr_record.proofs.Steps.{fails_standing, one_too_many, record_fails, record_taken}
use Rattle.gr_record.proofs.decoder.Decoder.take_record.Goals as goal

pub returns-then-self-clause-continues : goal.returns-then-self-clause-continues
returns-then-self-clause-continues g c rest =
    let place = rw (← c.self.view_is) at c.requires.place in
    rw (← c.self.view_is, place.0, place.1, place.2) (one_too_many _ _ _ rest _ c.args.header c.requires.whole c.if-self.true)

pub invariant_of-self-in-Err : goal.invariant_of-self-in-Err
invariant_of-self-in-Err g c =
    fails_standing c.self.invariant (rw (← c.self.view_is) at c.requires.place.2) (λ e. event_apart c.args.header _ (sym c.read_event.ensures ∙ c.in-Err.is ∙ ap Err e))

pub returns-in-Ok-clause-continues : goal.returns-in-Ok-clause-continues
returns-in-Ok-clause-continues g c rest =
    let place = rw (← c.self.view_is) at c.requires.place in
    let count = rw place.1 at c.self.invariant.count in
    rw (← c.self.view_is, place.0, place.1, place.2, c.push.ensures.parts, c.stop_behind-self-inside.ensures)
    (record_taken _ _ _ rest _ c.args.header c.requires.whole (omega (arith, count)) _ _ (sym c.read_event.ensures ∙ c.in-Ok.is) refl)

pub returns-in-Err-clause-continues : goal.returns-in-Err-clause-continues
returns-in-Err-clause-continues g c rest =
    let place = rw (← c.self.view_is) at c.requires.place in
    let count = rw place.1 at c.self.invariant.count in
    rw (← c.self.view_is, place.0, place.1, place.2)
    (record_fails _ _ _ rest _ c.args.header c.requires.whole (omega (arith, count)) _ (sym c.read_event.ensures ∙ c.in-Err.is))
