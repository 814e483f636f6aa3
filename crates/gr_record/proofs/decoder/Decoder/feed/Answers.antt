use Rattle.gr_model.proofs.Common.{[], subst, rules}
use Rattle.gr_record.specs.Prelude.{IsStanding, Continues}
use Rattle.gr_record.proofs.Steps.{fed}
use Rattle.gr_record.proofs.decoder.Decoder.feed.Goals as goal
use Rattle.gr_record.proofs.decoder.Decoder.feed.Goals.{then-is_inside+in_ok-reserve, else-is_inside}

pub returns : goal.returns
returns g c =
    let continues : Continues c.args.self.now c.args.piece.now c.args.parts.now.items c.if-is_inside.self [] c.if-is_inside.parts.items =
    elim c.if-is_inside.branch [
      | then-is_inside+in_ok-reserve w ↦ rw (w.self-is, w.parts-is) (rw w.reserve.ensures.items at w.take_piece.ensures)
      | else-is_inside w ↦ rw (w.self-is, w.parts-is) (w.keep.ensures c.args.parts.now.items)
    ] in
    let f = fed _ _ _ _ _ (subst IsStanding c.self.view_is c.self.invariant) continues in
    record { stands = λ memory bytes so. (f bytes so).0; parts = λ memory bytes so. (f bytes so).1; fault = search rules; limit = search rules; memory = search rules; over = search rules; room = search rules }
