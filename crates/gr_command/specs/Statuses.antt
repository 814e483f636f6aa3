-- The exit statuses of the program.
-- Source: docs/OUTPUT.md, "Statuses".
use Rattle.std.specs.Prelude.{◌≡◌, ◌⊎◌, ℕ, Bool, if◌then◌else◌}
use Rattle.gr_model.specs.Prelude.{WholeReport}
use Rattle.gr_record.specs.declared.error.RecordError.TheVariants.{Memory as NoMemory}
use Rattle.gr_record.specs.declared.fault.Fault.{Fault}
use Rattle.gr_record.specs.declared.fault.Fault.TheVariants.{Stream, SameGroup, OtherLaunch, MissingGroup, Shape, BadLine, NoEnd, LongStream, Read, Write, Memory, Threads}
use Rattle.gr_report.specs.Whole.{HasFinding}
use Rattle.gr_places.specs.declared.sides_fault.SidesFault.{SidesFault}
use Rattle.gr_places.specs.declared.sides_fault.SidesFault.TheVariants.{Buffers, Places, Run}
use Rattle.gr_command.specs.declared.status.TheConstants.{NOTHING, FOUND, REFUSED, NO_MEMORY_OR_THREAD, FAILED}

-- a fault of the input is a refusal
abbrev pub fault_status : Fault → ℕ
fault_status (Stream place NoMemory) = NO_MEMORY_OR_THREAD
fault_status (Stream place error) = REFUSED
fault_status (SameGroup place) = REFUSED
fault_status (OtherLaunch place) = REFUSED
fault_status (MissingGroup group) = REFUSED
fault_status (Shape error) = REFUSED
fault_status (BadLine line) = REFUSED
fault_status NoEnd = REFUSED
fault_status (LongStream line) = REFUSED
fault_status Memory = NO_MEMORY_OR_THREAD
fault_status Threads = NO_MEMORY_OR_THREAD
fault_status Read = FAILED
fault_status Write = FAILED

-- the status of a fault with side files
abbrev pub sides_fault_status : SidesFault → ℕ
sides_fault_status (Run f) = fault_status f
sides_fault_status (Places line) = REFUSED
sides_fault_status (Buffers line) = REFUSED

-- a report has the status of a finding if it has a race, a divergent barrier or an unmatched acquire
abbrev pub IsReportStatus : WholeReport → ℕ → Type 0
IsReportStatus r status = ((status ≡ FOUND) × HasFinding r) ⊎ ((status ≡ NOTHING) × ¬ HasFinding r)

-- whether files are accepted
abbrev pub check_status : Bool → ℕ
check_status accepted = if accepted then NOTHING else REFUSED

-- whether a word is racy
abbrev pub race_status : Bool → ℕ
race_status found = if found then FOUND else NOTHING
