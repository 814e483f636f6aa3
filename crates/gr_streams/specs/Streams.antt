-- What a run reports of streams with an input each, and why it refuses them.
-- Source: docs/FORMATS.md, "Faults", and docs/MODEL.md, "The report".
use Rattle.std.specs.Prelude.{◌≡◌, ◌⊎◌, ℕ, List, Option, Ok, ⊤}
use Rattle.gr_streams.specs.Types.{FinishError, Event, Header, Fault}
use Rattle.gr_detector.specs.declared.error.FinishError.TheVariants.{Memory as NoMemory, Receipts}
use Rattle.gr_model.specs.Prelude.{IsReportOf, WholeReport, IsShape, Streams}
use Rattle.gr_record.specs.declared.fault.Fault.TheVariants as faults
use Rattle.gr_record.specs.Prelude.{Fails}
use Rattle.gr_report.specs.Putting.{AppendsPrefix}
use Rattle.gr_report.specs.ReportText.{report_text}
use Rattle.gr_replay.specs.Replays.{IsExactOfEach}
use Rattle.gr_intake.specs.Launch.{IsLaunchFault, IsLaunchOf}
use Rattle.gr_streams.specs.Headers.{AreHeadersOf, bares, headers_of, streams_with}
use Rattle.gr_streams.specs.Records.{lists_of}

-- the headers are of a launch
abbrev pub AreOfLaunch : List Header → Type 0
AreOfLaunch hs = (sizes : List ℕ) × AreHeadersOf hs sizes × IsShape sizes

-- the first fault of the headers, or else why they are of no launch, or else the first fault of the records
abbrev pub IsInputFault : List (List ℕ) → Fault → Type 0
IsInputFault inputs f =
    Fails f (headers_of inputs)
    ⊎ ((hs : List Header) × (headers_of inputs ≡ Ok hs) × (IsLaunchFault (bares hs) f ⊎ (AreOfLaunch hs × Fails f (lists_of inputs))))

-- why a run fails: the inputs are no launch, or a thread could not be started, or the writer failed
abbrev pub IsRunFault : List (List ℕ) → Fault → Type 0
IsRunFault inputs f = IsInputFault inputs f ⊎ ((f ≡ faults.Threads) ⊎ (f ≡ faults.Write))

-- a run that was finished with one receipt of each group can fail only because memory ran out
abbrev pub IsWantOfMemory : {A : Type 0} → FinishError A → Type 0
IsWantOfMemory (Receipts r v) = ⊥
IsWantOfMemory NoMemory = ⊤

-- a prefix of the text of the report was written
abbrev pub WritesPrefixOfEach : List (List ℕ) → Option (List ℕ) → Option (List ℕ) → Type 0
WritesPrefixOfEach inputs old new = (r : WholeReport) × IsExactOfEach inputs r × AppendsPrefix old new (report_text r)

-- the report is that of the inputs, which have these headers
pub record IsReportOn (hs : List Header) (inputs : List (List ℕ)) (report : WholeReport) : Type 0 where
  pub lists : List (List Event)
  pub read : lists_of inputs ≡ Ok lists
  pub launch : Streams
  pub spelled : IsLaunchOf (streams_with hs lists) launch
  pub shape : IsShape launch.sizes
  pub exact : IsReportOf launch report
