use Rattle.gr_model.proofs.Common.{List, [], map, inl, inr, refl, subst, sym, ⊎_elim, IfSome_then, IfErr-weaker, IfOk-weaker, err_from_is_err_and}
use Rattle.gr_record.specs.declared.fault.Fault.TheVariants as faults
use Rattle.gr_record.specs.declared.header.Header.{Header}
use Rattle.gr_replay.specs.Each.{all_known}
use Rattle.gr_intake.specs.Launch.{IsLaunchFault}
use Rattle.gr_intake.proofs.Accepted.{none_are}
use Rattle.gr_replay.proofs.JoinedInputs.{each_are}
use Rattle.gr_intake.proofs.Judged.{launch_accepts}
use Rattle.gr_report.specs.Whole.{whole_of}
use Rattle.gr_streams.specs.Headers.{AreApart, bares, streams_with}
use Rattle.gr_streams.specs.Streams.{IsReportOn}
use Rattle.gr_streams.proofs.EachLemmas.{each_behind}
use Rattle.gr_streams.proofs.HeadingLemmas.{if_any}
use Rattle.gr_streams.proofs.LaunchLemmas.{known_all}
use Rattle.gr_streams.proofs.run.detect_streams.Goals as goal

pub returns-in_err-headers-clause-fault : goal.returns-in_err-headers-clause-fault
returns-in_err-headers-clause-fault g c =
    let p = err_from_is_err_and c.from_residual.result c.from_residual.ensures.1 in
    rw (p.1, p.2) (IfSome_then (all_known (map g.T.Read.remaining c.args.readers.items)) c.in_err-headers.ensures.exact (λ inputs fails. inl (inl fails)))

pub returns-in_err-shape-clause-fault : goal.returns-in_err-shape-clause-fault
returns-in_err-shape-clause-fault g c =
    let p = err_from_is_err_and c.from_residual-in_err-shape.result c.from_residual-in_err-shape.ensures.1 in
    rw (p.1, p.2) (IfSome_then (all_known (map g.T.Read.remaining c.args.readers.items)) c.in_ok-headers.ensures.headers (λ inputs read. inl (inr (c.in_ok-headers.field-0.headers, read, inl c.in_err-shape.ensures.fault))))

pub returns-in_err-shape-clause-write : goal.returns-in_err-shape-clause-write
returns-in_err-shape-clause-write g c =
    let p = err_from_is_err_and c.from_residual-in_err-shape.result c.from_residual-in_err-shape.ensures.1 in
    rw (p.1, p.2) (λ is. let none : IsLaunchFault (bares c.in_ok-headers.field-0.headers) faults.Write = subst (IsLaunchFault (bares c.in_ok-headers.field-0.headers)) is c.in_err-shape.ensures.fault in absurd none)

pub run_sources-requires-clause-apart : goal.run_sources-requires-clause-apart
run_sources-requires-clause-apart g c κs within = subst AreApart (sym c.in_ok-headers.ensures.sources) c.in_ok-headers.ensures.apart

pub returns-clause-report : goal.returns-clause-report
returns-clause-report g c =
    let hs = c.in_ok-headers.field-0.headers in
    let read = c.in_ok-headers.ensures in
    IfOk-weaker c.run_sources.result _ _
    (λ r h. if_any (all_known (map g.T.Read.remaining c.args.readers.items)) _
    (λ inputs is.
    let known = rw is at (known_all _ _ read.known) in
    let headers = rw is at read.headers in
    let on = subst (λ (l : List Header). IsReportOn l inputs (whole_of r)) read.sources (h inputs known) in
    let seen = streams_with hs on.lists in
    let each = each_behind inputs [] hs [] on.lists refl headers on.read in
    record {
      launch = on.launch;
      spelled = (seen, each, on.spelled);
      accepted = launch_accepts seen on.launch (each_are inputs [] seen none_are each) on.spelled on.shape;
      exact = on.exact;
    }))
    c.run_sources.ensures.report

pub returns-clause-fault : goal.returns-clause-fault
returns-clause-fault g c =
    let hs = c.in_ok-headers.field-0.headers in
    let read = c.in_ok-headers.ensures in
    IfErr-weaker c.run_sources.result _ _
    (λ f h. if_any (all_known (map g.T.Read.remaining c.args.readers.items)) _
    (λ inputs is.
    let known = rw is at (known_all _ _ read.known) in
    let headers = rw is at read.headers in
    ⊎_elim
    (λ threads. inr (inl threads))
    (λ fails. inl (inr (hs, headers, inr ((c.in_ok-shape.shape, c.in_ok-shape.ensures.launch, c.in_ok-shape.ensures.shape), fails))))
    (h inputs known)))
    c.run_sources.ensures.fault
