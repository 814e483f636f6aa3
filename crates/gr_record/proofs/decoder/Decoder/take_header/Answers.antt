use Rattle.gr_model.proofs.Common.{Err, sym, ap, ◌∙◌}
use Rattle.gr_record.proofs.Judging.{header_apart}
use Rattle.gr_record.proofs.Steps.{fails_standing, header_continues, header_fails}
use Rattle.gr_record.proofs.decoder.Decoder.take_header.Goals as goal

pub invariant_of-self-in-Err : goal.invariant_of-self-in-Err
invariant_of-self-in-Err g c =
    fails_standing c.self.invariant (rw (← c.self.view_is) at c.requires.place.2) (λ e. header_apart _ (sym c.read_header.ensures.exact ∙ c.in-Err.is ∙ ap Err e))

pub returns-in-Ok-clause-continues : goal.returns-in-Ok-clause-continues
returns-in-Ok-clause-continues g c rest =
    let place = rw (← c.self.view_is) at c.requires.place in
    rw (← c.self.view_is, place.0, place.1, place.2, c.push.ensures.parts)
    (header_continues _ _ _ rest _ _ c.requires.whole (sym c.read_header.ensures.exact ∙ c.in-Ok.is))

pub returns-in-Err-clause-continues : goal.returns-in-Err-clause-continues
returns-in-Err-clause-continues g c rest =
    let place = rw (← c.self.view_is) at c.requires.place in
    rw (← c.self.view_is, place.0, place.1, place.2) (header_fails _ _ _ rest _ _ c.requires.whole (sym c.read_header.ensures.exact ∙ c.in-Err.is))
