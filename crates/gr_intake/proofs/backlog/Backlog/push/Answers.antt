use Rattle.gr_model.proofs.Common.{◌∷◌, ◌++◌, [], List, ap, ◌∙◌, arith, rules, set-get_or, err_from_is_err_and}
use Rattle.gr_model.specs.declared.event.Event.{Event}
use Rattle.gr_intake.specs.Waiting.{Coming}
use Rattle.gr_intake.proofs.Backlogs.{coming, last_piece, last_written, waiting_grows, waiting_in}
use Rattle.gr_intake.proofs.backlog.Backlog.push.Goals as goal

pub returns-clause-ok : goal.returns-clause-ok
returns-clause-ok g c =
    let pieces = c.last_with_room.new.pieces.items in
    let waits = c.in_ok-push.ensures.ok ∙ ap (λ (p : List Event). p ++ c.args.event.now ∷ []) c.index_mut.ensures.value in
    ap (coming c.self.inside.header)
    (last_piece pieces c.in_ok-last.last c.index_mut.result.now c.push.new.self c.args.event.now c.in_ok-last.ensures.place waits ∙ ap (λ (w : List Event). w ++ c.args.event.now ∷ []) (waiting_grows c.self.inside.pieces.items pieces c.in_ok-last.ensures.grown))
    ∙ ap (λ (v : Coming). coming v.header (v.waiting ++ c.args.event.now ∷ [])) c.self.view_is

pub invariant_of-self-2 : goal.invariant_of-self-2
invariant_of-self-2 g c =
    last_written c.self.inside.pieces.items c.last_with_room.new.pieces.items c.self.inside.first c.in_ok-last.last c.min-self-inside.result c.push.new.self c.self.invariant c.in_ok-last.ensures.grown c.in_ok-last.ensures.place (search rules) (search rules)

pub invariant_of-self-in_err-push : goal.invariant_of-self-in_err-push
invariant_of-self-in_err-push g c =
    last_written c.self.inside.pieces.items c.last_with_room.new.pieces.items c.self.inside.first c.in_ok-last.last c.min-self-inside.result c.push.new.self c.self.invariant c.in_ok-last.ensures.grown c.in_ok-last.ensures.place (search rules) (search rules)

pub returns-in_err-push-clause-err : goal.returns-in_err-push-clause-err
returns-in_err-push-clause-err g c = grind (arith, err_from_is_err_and, set-get_or, coming, waiting_in, waiting_grows)
