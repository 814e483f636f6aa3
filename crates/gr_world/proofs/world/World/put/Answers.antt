use Rattle.gr_model.proofs.Common.{◌∙◌, ap, rules, subst, sym, true≢false, err_from_is_err_and}
use Rattle.gr_model.specs.declared.event.Sent.{Sent}
use Rattle.gr_lanes.specs.Remembered.{Remembered}
use Rattle.gr_world.specs.Queues.{HasRoom}
use Rattle.gr_world.proofs.SendLemmas.{at_queue, may_put, put_full, sent_is_put, sent_is_world}
use Rattle.gr_world.proofs.world.World.put.Goals as goal

pub take_accepted-requires-clause-can : goal.take_accepted-requires-clause-can
take_accepted-requires-clause-can g c = record { group = rw (← c.self.view_is) at c.requires.group; before_end = search rules; item = (rw (← c.self.view_is) at c.requires.good).0 }

pub take_accepted-requires-clause-room : goal.take_accepted-requires-clause-room
take_accepted-requires-clause-room g c = c.self.invariant.room c.args.group (search rules)

pub push-requires : goal.push-requires
push-requires g c =
    let seen = at_queue _ c.self.invariant c.args.group _ _ (search rules) c.index.ensures in
    let now = at_queue _ c.self.invariant c.args.group _ _ (search rules) c.index_mut.ensures.value in
    subst (HasRoom {T = Sent}) (seen ∙ sym now) (c.has_room.ensures.0 c.if-not-has_room.false)

pub invariant_of-self-2 : goal.invariant_of-self-2
invariant_of-self-2 g c =
    sent_is_world _ c.self.invariant c.args.group _ (search rules) _ c.index_mut.ensures.value c.args.event _ _ (ap (λ (r : Remembered). r.streams) c.in_ok-take_accepted.ensures.ok) c.push.ensures c.in_ok-take_accepted.ensures.prefixes
    (rw (← c.self.view_is) at c.requires.group) (rw (← c.self.view_is) at c.requires.room)

pub returns-clause-ok : goal.returns-clause-ok
returns-clause-ok g c =
    rw (← c.self.view_is)
    (sent_is_put _ c.self.invariant c.args.group _ (search rules) _ c.index_mut.ensures.value c.args.event _ _ (ap (λ (r : Remembered). r.streams) c.in_ok-take_accepted.ensures.ok) c.push.ensures
    (may_put _ c.self.invariant c.args.group _ (search rules) _ c.index.ensures (search rules) (c.has_room.ensures.0 c.if-not-has_room.false)))

pub returns-in_err-take_accepted-clause-err : goal.returns-in_err-take_accepted-clause-err
returns-in_err-take_accepted-clause-err g c =
    let p = err_from_is_err_and c.from_residual.result c.from_residual.ensures.1 in
    rw (← c.self.view_is, p.1, p.2) (may_put _ c.self.invariant c.args.group _ (search rules) _ c.index.ensures (search rules) (c.has_room.ensures.0 c.if-not-has_room.false))

pub returns-then-not-has_room-clause-err : goal.returns-then-not-has_room-clause-err
returns-then-not-has_room-clause-err g c =
    rw (← c.self.view_is) (put_full _ c.self.invariant c.args.group _ (search rules) _ c.index.ensures (search rules) (λ room. true≢false (sym (c.has_room.ensures.1 room) ∙ c.if-not-has_room.true)))
