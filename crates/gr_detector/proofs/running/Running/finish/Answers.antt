use Rattle.gr_model.proofs.Common.{arith, ◌≡◌, ◌∙◌, List, Some, refl, ap, sym, subst, length, option_map, length-map, IfOk-at_ok}
use Rattle.gr_model.specs.Prelude.{Lists, WordBelow}
use Rattle.gr_report.specs.Whole.{whole_of}
use Rattle.gr_route.specs.IntakeSeats.{Taker}
use Rattle.gr_route.specs.WorkSeats.{Giver}
use Rattle.gr_sequencer_thread.specs.Ends.{End}
use Rattle.gr_sequencer_thread.specs.Feeds.{AreStopped, given_of, intakes_of}
use Rattle.gr_detector.specs.Runs.{IsEachOnce}
use Rattle.gr_detector.specs.Settling.{ArePopped, IsHitAmong, pops_of}
use Rattle.gr_detector.proofs.FinishLemmas.{finished}
use Rattle.gr_detector.proofs.running.Running.finish.Goals as goal

pub join_intakes-requires-clause-here : goal.join_intakes-requires-clause-here
join_intakes-requires-clause-here g c =
    let run = c.args.self in
    let now = c.into_parts-inlets.result.inlets.items in
    let parts = c.into_parts-inlets.ensures in
    let same : run.intakes ≡ intakes_of now = grind (arith, parts.parts, c.join.ensures, c.self.view_is) in
    let count : length (intakes_of now) ≡ run.config.queues =
    grind (arith, length-map now (λ (t : Taker). t.queue), parts.parts, parts.end.queues, c.join.ensures, c.self.view_is) in
    λ k d lt. rw (count, sym same) (c.requires k d lt).here

pub settle_all-races-requires-clause-stopped : goal.settle_all-races-requires-clause-stopped
settle_all-races-requires-clause-stopped g c =
    subst (λ (gs : List (Giver g.row.A.Denot)). AreStopped gs) (ap (λ (e : End g.row.A.Denot). e.givers) c.into_parts-inlets.ensures.parts) c.into_parts-inlets.ensures.end.stopped

pub returns-in-Some-Ok-clause-once : goal.returns-in-Some-Ok-clause-once
returns-in-Some-Ok-clause-once g c =
    let groups : c.self.inside.groups ≡ length c.args.self.sizes = grind (arith, c.self.invariant.0, c.self.view_is) in
    rw (sym groups, sym c.deref.ensures.value) (c.if-not-has_each_once.ensures.0 refl)

pub returns-in-Some-Ok-clause-report : goal.returns-in-Some-Ok-clause-report
returns-in-Some-Ok-clause-report g c =
    let end = c.join.result in
    let parts = c.into_parts-inlets.ensures in
    let receipts = c.args.receipts.items in
    let w = whole_of c.in-Some-Ok.report in
    let races = c.in-Some-Ok.races.items in
    let report : end.report ≡ Some w = ap (λ (e : End g.row.A.Denot). e.report) parts.parts ∙ ap (option_map whole_of) c.in-Some-Ok.is-0 in
    let outlets = c.into_parts-inlets.result.outlets.items in
    let hits : Lists WordBelow (IsHitAmong (given_of end.givers)) races =
    rw parts.parts (IfOk-at_ok (λ v. Lists WordBelow (IsHitAmong (given_of outlets)) v.items) c.in-Some-Ok.is-1 c.settle_all-races.ensures) in
    let told : ArePopped (pops_of end.takers) receipts = rw parts.parts c.join_intakes.ensures in
    let sizes : end.sizes ≡ c.args.self.sizes = grind (arith, c.join.ensures, c.self.view_is) in
    let once : IsEachOnce (length end.sizes) receipts = rw sizes (returns-in-Some-Ok-clause-once g c) in
    rw (c.with_races.ensures, sym sizes) (finished end parts.end w report races hits receipts once told)

pub returns-clause-refused : goal.returns-clause-refused
returns-clause-refused g c =
    let groups : c.self.inside.groups ≡ length c.args.self.sizes = grind (arith, c.self.invariant.0, c.self.view_is) in
    rw (sym groups, sym c.deref.ensures.value) (c.if-not-has_each_once.ensures.0 refl)
