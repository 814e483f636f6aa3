use Rattle.gr_model.proofs.Common.{◌≡◌, List, ℕ, subst, sym}
use Rattle.gr_model.specs.Prelude.{IsShape}
use Rattle.gr_record.specs.declared.header.Header.{Header}
use Rattle.gr_taking.specs.Sources.{MayCome, come_from}
use Rattle.gr_intake.specs.Intakes.{IsGap, come}
use Rattle.gr_intake.specs.Waiting.{Coming}
use Rattle.gr_intake.proofs.Comings.{none_goes_on, seen_come}
use Rattle.gr_intake.proofs.Judged.{gap_is_launch_fault, launch_taken}
use Rattle.gr_intake.proofs.Sources.{come_as, streams_may_come}
use Rattle.gr_intake.proofs.intake.Intake.report.Goals as goal

pub returns-in-Some-clause-fault : goal.returns-in-Some-clause-fault
returns-in-Some-clause-fault g c =
    let i = c.args.self.now in
    let read = none_goes_on i c.requires.whole c.requires.intake in
    let gap : IsGap i.sequencer.taken.sizes c.in-Some.fault = subst (λ (sizes : List ℕ). IsGap sizes c.in-Some.fault) c.shape.ensures.sizes c.in-Some.ensures in
    gap_is_launch_fault i.sequencer.taken (come i.sequencer.taken i.streams.items) (seen_come i.sequencer i.shadows i.streams.items read) read.sequence.prefixes.count c.in-Some.fault gap

pub take_all-requires-clause-may : goal.take_all-requires-clause-may
take_all-requires-clause-may g c =
    let i = c.args.self.now in
    let read = none_goes_on i c.requires.whole c.requires.intake in
    let seen = seen_come i.sequencer i.shadows i.streams.items read in
    subst (λ (cs : List Coming). MayCome (λ (h : Header). h.group) i.sequencer.taken.sizes (come_from (λ (b : Coming). b.header) (λ (h : Header). h.group) (λ (b : Coming). b.waiting) i.sequencer.taken cs)) (sym c.as_mut_slice.ensures.value)
    (streams_may_come i.sequencer.taken i.streams.items read.streams seen)

pub returns-clause-report : goal.returns-clause-report
returns-clause-report g c =
    let i = c.args.self.now in
    let read = none_goes_on i c.requires.whole c.requires.intake in
    let now = c.take_all.new in
    let all = c.in_ok-take_all.ensures in
    let seen = seen_come i.sequencer i.shadows i.streams.items read in
    let same : come now.sequencer.taken now.sources ≡ come i.sequencer.taken i.streams.items =
    subst (λ (cs : List Coming). come now.sequencer.taken now.sources ≡ come i.sequencer.taken cs) c.as_mut_slice.ensures.value (come_as now.sequencer.taken i.sequencer.taken now.sources c.as_mut_slice.result.now all.come) in
    let shape : IsShape i.sequencer.taken.sizes = subst IsShape c.shape.ensures.sizes c.in_default.ensures in
    let launch = launch_taken i.sequencer.taken now.sequencer.taken i.streams.items now.sources same all.sizes all.sequence.prefixes.count seen read.streams all.none shape in
    (now.sequencer.taken, launch.0, launch.1, c.in_ok-report_of.ensures)
