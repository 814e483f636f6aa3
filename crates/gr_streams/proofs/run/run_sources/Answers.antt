use Rattle.gr_model.proofs.Common.{◌≡◌, ◌∙◌, ◌⊎◌, Result, ap, arith, inr, length, map, subst, sym, ⊎_elim, length-map, IfErr-weaker, IfOk-at_ok, IfOk-weaker}
use Rattle.gr_detector.specs.Refusals.{IsHandedBack}
use Rattle.gr_detector.specs.Runs.{IsEachOnce, sent_by}
use Rattle.gr_model.specs.Prelude.{IsReportOf}
use Rattle.gr_record.specs.Prelude.{Fails}
use Rattle.gr_streams.specs.Types.{Fault, Source}
use Rattle.gr_record.specs.declared.fault.Fault.TheVariants as faults
use Rattle.gr_report.specs.Whole.{whole_of}
use Rattle.gr_route.specs.IntakeSeats.{Seat}
use Rattle.gr_streams.specs.Records.{lists_of}
use Rattle.gr_streams.specs.Sending.{FailsHere, Tells}
use Rattle.gr_streams.specs.Sources.{AreSenders}
use Rattle.gr_streams.specs.Streams.{IsWantOfMemory}
use Rattle.gr_streams.proofs.JoinLemmas.{begun_count}
use Rattle.gr_streams.proofs.LaunchLemmas.{launch_sent, of_run, receipts_of_run, served}
use Rattle.gr_streams.proofs.OnceLemmas.{each_once, only_memory}
use Rattle.gr_streams.proofs.run.run_sources.Goals as goal

pub start_all-threads-requires-clause-headed : goal.start_all-threads-requires-clause-headed
start_all-threads-requires-clause-headed g c κs within = rw c.in_ok-shares.ensures.shares c.requires.headed

pub start_all-threads-requires-clause-senders : goal.start_all-threads-requires-clause-senders
start_all-threads-requires-clause-senders g c κs within =
    let hs = map (λ (s : Source _). s.header) c.args.sources.items in
    let run = c.in-Ok-start.started.1 in
    rw (c.at_places-senders.ensures, c.in_ok-shares.ensures.shares) (served run c.in-Ok-start.started.0.items c.in-Ok-start.ensures.senders hs c.requires.apart (rw c.in-Ok-start.ensures.run.1 c.requires.shape))

pub join_all-fault-requires : goal.join_all-fault-requires
join_all-fault-requires g c =
    let room = c.in_ok-shares.ensures.receipts in
    let sources = c.args.sources.items in
    let begun = rw c.in_ok-shares.ensures.shares at c.start_all-threads.ensures.begun in
    record {
      none = room.none;
      empty = room.empty;
      fits = omega (arith, room.fits, begun_count _ _ _ _ begun, length-map sources (λ (s : Source _). s.header), c.args.sources.ok.0);
    }

pub finish-requires : goal.finish-requires
finish-requires g c =
    let run = c.in-Ok-start.started.1 in
    let senders = of_run run c.in-Ok-start.started.0.items c.in-Ok-start.ensures.senders in
    let begun = c.start_all-threads.ensures.run run (subst (AreSenders run) (sym c.at_places-senders.ensures) senders) in
    receipts_of_run run _ c.join_all-fault.new.receipts.items begun c.join_all-fault.ensures.receipts

pub judge-requires : goal.judge-requires
judge-requires g c =
    let hs = map (λ (s : Source _). s.header) c.args.sources.items in
    let run = c.in-Ok-start.started.1 in
    let receipts = c.join_all-fault.new.receipts.items in
    let begun = rw c.in_ok-shares.ensures.shares at c.start_all-threads.ensures.begun in
    let once : IsEachOnce (length run.sizes) receipts = each_once hs run.sizes receipts c.requires.apart (rw c.in-Ok-start.ensures.run.1 c.requires.shape) (c.join_all-fault.ensures.receipts.groups ∙ begun.groups) in
    IfErr-weaker c.finish.result (IsHandedBack run receipts) IsWantOfMemory (only_memory run receipts once) c.finish.ensures.refused

pub returns-clause-report : goal.returns-clause-report
returns-clause-report g c =
    let hs = map (λ (s : Source _). s.header) c.args.sources.items in
    let run = c.in-Ok-start.started.1 in
    let receipts = c.join_all-fault.new.receipts.items in
    let pushed = map (λ (r : Seat). r.pushed) receipts in
    let begun = rw c.in_ok-shares.ensures.shares at c.start_all-threads.ensures.begun in
    IfOk-weaker c.judge.result _ _
    (λ r h inputs known.
    let tells = c.join_all-fault.ensures.tells inputs (begun.placed, begun.bytes ∙ known) in
    record {
      lists = pushed;
      read = subst (Tells (lists_of inputs) pushed) h.0 tells;
      launch = sent_by run.sizes receipts;
      spelled = launch_sent hs run.sizes receipts c.requires.apart (rw c.in-Ok-start.ensures.run.1 c.requires.shape) (c.join_all-fault.ensures.receipts.groups ∙ begun.groups);
      shape = rw c.in-Ok-start.ensures.run.1 c.requires.good;
      exact = IfOk-at_ok (λ report. IsReportOf (sent_by run.sizes receipts) (whole_of report)) h.1 c.finish.ensures.report;
    })
    c.judge.ensures.report

pub at_places-senders-requires : goal.at_places-senders-requires
at_places-senders-requires g c =
    let room = c.in_ok-shares.ensures.senders in
    let senders = c.in-Ok-start.ensures.senders in
    let groups = ap length c.in-Ok-start.ensures.run.1 in
    record {
      none = room.none;
      empty = room.empty;
      fits = omega (arith, room.fits, c.groups.ensures.count, groups, senders.count, c.in-Ok-start.started.0.ok.0);
    }

-- the fault of a thread's input is why the run fails, unless a thread is missing
why : {Y : Type 0} (meaning : Result Y Fault) (f : Fault) → FailsHere f meaning → (f ≡ faults.Threads) ⊎ Fails f meaning
why meaning f here = grind arith

pub returns-clause-fault : goal.returns-clause-fault
returns-clause-fault g c =
    let begun = rw c.in_ok-shares.ensures.shares at c.start_all-threads.ensures.begun in
    IfErr-weaker c.judge.result _ _
    (λ f h inputs known.
    ⊎_elim
    (λ told.
    let tells = c.join_all-fault.ensures.tells inputs (begun.placed, begun.bytes ∙ known) in
    why (lists_of inputs) f (rw told at tells).1)
    (λ memory. inr (subst (λ (e : Fault). Fails e (lists_of inputs)) (sym memory) tt))
    h)
    c.judge.ensures.fault
