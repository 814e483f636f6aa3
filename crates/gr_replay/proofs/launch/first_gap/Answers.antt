use Rattle.gr_model.proofs.Common.{◌≡◌, ◌<◌, ◌≤◌, get_or, arith, sym, ap, ◌∙◌, eq-or-lt_of_le, ⊎_elim, subst, get_or_default, length-map}
use Rattle.gr_intake.specs.Joined.{Flat}
use Rattle.gr_replay.specs.InMemory.{flat, flats}
use Rattle.gr_replay.proofs.Launching.{gap, at_least, group_at}
use Rattle.gr_replay.proofs.launch.first_gap.Goals as goal

pub loop-place-preserved : goal.loop-place-preserved
loop-place-preserved c =
    let xs = c.args.streams.now in
    let p = c.loop-place.place in
    let x = c.index-streams-place.result in
    let here = group_at flat xs p x c.loop-place-test.true c.index-streams-place.is ∙ (sym c.from.ensures ∙ c.if-from-place.false) in
    λ k d lt.
    ⊎_elim
    (λ (same : k ≡ p). subst (λ n. (get_or (flats xs) n d).header.group ≡ n) (sym same) (ap (λ (f : Flat). f.header.group) (get_or_default (flats xs) p d (flat x) (omega (arith, length-map xs flat, c.loop-place-test.true))) ∙ here))
    (λ (before : k < p). c.loop-place.invariant k d before)
    (eq-or-lt_of_le (let le : k ≤ p = omega arith in le))

pub overflow_cast-result : goal.overflow_cast-result
overflow_cast-result c =
    let xs = c.args.streams.now in
    let p = c.loop-place.place in
    let x = c.index-streams-place.result in
    let low = at_least (flats xs) c.requires p (flat x) (omega (arith, length-map xs flat, c.loop-place-test.true)) c.loop-place.invariant in
    let same = group_at flat xs p x c.loop-place-test.true c.index-streams-place.is in
    omega arith

pub returns-then-from-place : goal.returns-then-from-place
returns-then-from-place c =
    let xs = c.args.streams.now in
    let p = c.loop-place.place in
    let x = c.index-streams-place.result in
    let same = group_at flat xs p x c.loop-place-test.true c.index-streams-place.is in
    gap (flats xs) c.requires p (flat x) (omega (arith, length-map xs flat, c.loop-place-test.true)) c.loop-place.invariant (λ e. c.if-from-place.true (c.from.ensures ∙ (sym same ∙ e)))
