use Rattle.gr_model.proofs.Common.{◌≡◌, ◌∙◌, ◌++◌, ℕ, List, length, take, drop, append-nil, ap, sym, subst, arith, true, true≢false, drop_all, take_all}
use Rattle.gr_taking.specs.Along.{IsAlong}
use Rattle.gr_taking.specs.Sources.{ListedRecords, MayCome}
use Rattle.gr_sequencer_thread.specs.Feeds.{AreSplit, come_in, given_of}
use Rattle.gr_sequencer_thread.proofs.TakeLemmas.{may_come_now, popped_moves, taken_feed}
use Rattle.gr_sequencer_thread.proofs.feed.Feed.take_turns.Goals as goal

-- a list that was lent whole is what came back
whole_back : {X : Type 0} (n : ℕ) (was lent now : List X) → lent ≡ was → length lent ≡ n → length now ≡ length lent → take n (now ++ drop (length now) was) ≡ now
whole_back n was lent now value all count =
    let same = ap length value in
    ap (λ l. take n (now ++ l)) (drop_all (length now) was (omega (arith, count, same)))
    ∙ (ap (take n) (append-nil now) ∙ take_all n now (omega (arith, all, count)))

pub take_round-requires-clause-may : goal.take_round-requires-clause-may
take_round-requires-clause-may g c =
    let taken = c.self.inside.sequencer.taken in
    let good = c.self.invariant.good c.if-self.false in
    subst (λ (l : List ListedRecords). MayCome (λ n. n) taken.sizes (come_in taken l)) (sym c.as_mut_slice.ensures.value)
    (may_come_now c.self.inside.config taken c.self.inside.backlogs.items c.self.inside.inlets.items good.popped c.self.invariant.queues (let some = c.self.invariant.config.queues.0 in omega (arith, some)))

pub take_round-requires-clause-along : goal.take_round-requires-clause-along
take_round-requires-clause-along g c =
    subst (λ o. IsAlong (AreSplit c.self.inside.config.workers (given_of o.items)) c.self.inside.sequencer c.self.inside.on_way) (sym c.of.ensures) (c.self.invariant.good c.if-self.false).passed

pub invariant_of-self : goal.invariant_of-self
invariant_of-self g c =
    let good = c.self.invariant.good c.if-self.false in
    let took = c.in-Ok.ensures in
    let was = c.self.inside.backlogs.items in
    let now = c.take_round.new.sources in
    let slice = c.as_mut_slice.ensures.value in
    let come = took.come ∙ ap (come_in c.self.inside.sequencer.taken) slice in
    let popped = popped_moves c.self.inside.config c.self.inside.sequencer.taken was c.self.inside.inlets.items good.popped c.take_round.new.sequencer.taken now come took.sizes in
    let passed = subst (λ o. IsAlong (AreSplit c.self.inside.config.workers (given_of o.items)) c.take_round.new.sequencer c.take_round.new.kept) c.of.ensures took.along in
    rw (c.look_at-left.ensures, whole_back _ _ _ now slice c.as_mut_slice.ensures.len c.take_round.auto.sources)
    (taken_feed _ c.self.invariant _ _ _ _ (c.take_round.auto.sources ∙ ap length slice) (λ _. record { same = took.sizes ∙ good.same; sequence = took.sequence; popped = popped; passed = passed }))

pub invariant_of-self-in-Err : goal.invariant_of-self-in-Err
invariant_of-self-in-Err g c =
    rw (whole_back _ _ _ c.take_round.new.sources c.as_mut_slice.ensures.value c.as_mut_slice.ensures.len c.take_round.auto.sources)
    (taken_feed _ c.self.invariant _ _ _ true (c.take_round.auto.sources ∙ ap length c.as_mut_slice.ensures.value) (λ failed. absurd (true≢false failed)))
