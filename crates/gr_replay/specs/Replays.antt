-- The report of bytes and of inputs, and why bytes are not replayed.
-- Source: docs/FORMATS.md, "Faults", and docs/MODEL.md, "The report".
use Rattle.std.specs.Prelude.{◌≡◌, ◌⊎◌, ℕ, List, Option}
use Rattle.gr_model.specs.Prelude.{AreAccepted, Streams, WholeReport, IsReportOf}
use Rattle.gr_record.specs.declared.fault.Fault.{Fault}
use Rattle.gr_record.specs.declared.fault.Fault.TheVariants as faults
use Rattle.gr_report.specs.Putting.{AppendsPrefix}
use Rattle.gr_report.specs.ReportText.{report_text}
use Rattle.gr_intake.specs.Launch.{Reads, IsReadFault}
use Rattle.gr_replay.specs.Each.{ReadsEach}

-- the report is exact: the bytes are the streams of a launch, which the model accepts, and it is the report of the definitions on that launch
pub record IsExact (bytes : List ℕ) (report : WholeReport) : Type 0 where
  pub launch : Streams
  pub spelled : Reads bytes launch
  pub accepted : AreAccepted launch
  pub exact : IsReportOf launch report

-- the same of inputs, each of which is one stream
pub record IsExactOfEach (inputs : List (List ℕ)) (report : WholeReport) : Type 0 where
  pub launch : Streams
  pub spelled : ReadsEach inputs launch
  pub accepted : AreAccepted launch
  pub exact : IsReportOf launch report

-- why bytes are not replayed: they are no launch, or else the writer failed
abbrev pub IsReplayFault : List ℕ → Fault → Type 0
IsReplayFault bytes f = IsReadFault bytes f ⊎ (f ≡ faults.Write)

-- a prefix of the text of the report was written
abbrev pub WritesPrefix : List ℕ → Option (List ℕ) → Option (List ℕ) → Type 0
WritesPrefix bytes old new = (r : WholeReport) × IsExact bytes r × AppendsPrefix old new (report_text r)
