use Rattle.gr_model.proofs.Common.{◌∙◌, refl, sym, true≢false}
use Rattle.gr_agenda.proofs.TakeFrames.{own_remembered, took_following, took_plain, took_told, took_undiverged, took_wide}
use Rattle.gr_agenda.proofs.agenda.Agenda.take.Goals as goal

pub is_divergent-requires-clause-remembered : goal.is_divergent-requires-clause-remembered
is_divergent-requires-clause-remembered g c =
    let barrier = rw (c.lanes-taken.ensures.taken, c.in-Mark.is) at c.reach_of-reach.ensures in
    let took = rw c.in_ok-take.ensures.ok.1 at c.lanes.ensures.taken in
    own_remembered c.self.inside.order c.lanes-taken.ensures.sequence c.args.group c.args.event c.in_ok-take.ensures.ok.0 barrier.0
    c.in-Mark.instance barrier.1 c.lanes.result.now took (rw c.in_ok-take.ensures.ok.1 at c.lanes.ensures.forgets)

pub invariant_of-self-in-Item-1 : goal.invariant_of-self-in-Item-1
invariant_of-self-in-Item-1 g c =
    let plain = rw (c.lanes-taken.ensures.taken, c.in-Item.is) at c.reach_of-reach.ensures in
    rw c.in_ok-take.ensures.ok.1
    (took_plain c.lanes-taken.ensures.sequence c.self.invariant.0 c.self.inside.undiverged.items c.self.invariant.1 c.args.group c.args.event
    c.in_ok-take.ensures.ok.0 c.put.new.self c.put.ensures.keeps plain.0 plain.1 c.put.ensures.there)

pub invariant_of-self-then-not-is_number : goal.invariant_of-self-then-not-is_number
invariant_of-self-then-not-is_number g c =
    let follows = rw (c.lanes-taken.ensures.taken, c.in-Instance.is) at c.reach_of-reach.ensures in
    let put = c.put-then-not-is_number.ensures in
    rw c.in_ok-take.ensures.ok.1
    (took_following c.lanes-taken.ensures.sequence c.self.invariant.0 c.self.inside.undiverged.items c.self.invariant.1 c.args.group c.args.event
    c.in_ok-take.ensures.ok.0 c.put-then-not-is_number.new.self (λ r has. put.keeps r (c.put-in-Instance.ensures.keeps r has)) follows.0
    (put.keeps _ c.put-in-Instance.ensures.there) put.there)

pub invariant_of-self-else-not-is_number : goal.invariant_of-self-else-not-is_number
invariant_of-self-else-not-is_number g c =
    let follows = rw (c.lanes-taken.ensures.taken, c.in-Instance.is) at c.reach_of-reach.ensures in
    let told = rw (c.if-not-is_number.ensures refl, c.deref.ensures.value) at c.undiverged_of.ensures in
    let sequence = rw c.in_ok-take.ensures.ok.1 at c.take.ensures.sequence in
    rw c.in_ok-take.ensures.ok.1
    (took_told c.lanes-taken.ensures.sequence c.self.invariant.0 c.self.inside.undiverged.items c.self.invariant.1 c.args.group c.args.event
    c.in_ok-take.ensures.ok.0 c.put-in-Instance.new.self c.put-in-Instance.ensures.keeps follows.0 c.in-Instance.instance follows.1 sequence.prefixes told
    c.put-in-Instance.ensures.there)

pub invariant_of-self-then-not-is_divergent : goal.invariant_of-self-then-not-is_divergent
invariant_of-self-then-not-is_divergent g c =
    let barrier = rw (c.lanes-taken.ensures.taken, c.in-Mark.is) at c.reach_of-reach.ensures in
    let still = rw (c.lanes.ensures.taken, c.in_ok-take.ensures.ok.1) at c.is_divergent.ensures.1 in
    let sequence = rw c.in_ok-take.ensures.ok.1 at c.take.ensures.sequence in
    rw c.in_ok-take.ensures.ok.1
    (took_undiverged c.lanes-taken.ensures.sequence c.self.invariant.0 c.self.inside.undiverged.items c.self.invariant.1 c.args.group c.args.event
    c.in_ok-take.ensures.ok.0 c.put-in-Mark.new.self c.put-in-Mark.ensures.keeps barrier.0 c.in-Mark.instance barrier.1
    sequence.prefixes (λ divergent. true≢false (sym (still divergent) ∙ c.if-not-is_divergent.true)) c.put-in-Mark.ensures.there
    c.tell_undiverged.new.undiverged.items c.tell_undiverged.ensures)

pub invariant_of-self-in-Mark-2 : goal.invariant_of-self-in-Mark-2
invariant_of-self-in-Mark-2 g c =
    let woke = rw c.in_ok-take.ensures.ok.1 at c.wake_group.ensures in
    let sequence = rw c.in_ok-take.ensures.ok.1 at c.take.ensures.sequence in
    rw c.in_ok-take.ensures.ok.1
    (took_wide c.lanes-taken.ensures.sequence c.self.invariant.0 c.self.inside.undiverged.items c.self.invariant.1 c.args.group c.args.event
    c.in_ok-take.ensures.ok.0 c.wake_group.new.worklist woke.keeps c.wake_group.new.undiverged.items woke.forgotten woke.group
    sequence.prefixes woke.items)

pub invariant_of-self : goal.invariant_of-self
invariant_of-self g c = rw c.in_err-take.ensures.unchanged c.self.invariant
