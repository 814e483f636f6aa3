-- The line that says why there is no answer about a launch with side files.
-- Source: docs/OUTPUT.md, "Lines of faults".
use Rattle.std.specs.Prelude.{ℕ, List, ◌++◌, codes, decimal}
use Rattle.gr_report.specs.FaultText.{fault_line}
use Rattle.gr_report.specs.Putting.{field}
use Rattle.gr_places.specs.Types.{SidesFault, Buffers, Places, Run}

abbrev pub bad_line : List ℕ → ℕ → List ℕ
bad_line before line = field before (decimal line) ++ codes ": bad line\n"

abbrev pub sides_fault_line : SidesFault → List ℕ
sides_fault_line (Run f) = fault_line f
sides_fault_line (Places line) = bad_line (codes "gpurace: places: line ") line
sides_fault_line (Buffers line) = bad_line (codes "gpurace: buffers: line ") line
