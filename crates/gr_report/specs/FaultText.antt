-- The line that says why a run failed.
-- Source: docs/OUTPUT.md, "Lines of faults".
use Rattle.std.specs.Prelude.{ℕ, List, ◌++◌, codes, decimal}
use Rattle.gr_model.specs.declared.shape.ShapeError.{ShapeError}
use Rattle.gr_model.specs.declared.shape.ShapeError.TheVariants.{NoGroups, TooManyGroups, BadItems, TooManyItems}
use Rattle.gr_record.specs.declared.error.RecordError.{RecordError}
use Rattle.gr_record.specs.declared.error.RecordError.TheVariants.{BadMagic, BadHeader, BadKind, BadField, BadOrder, BadName, UnknownItem, AfterEnd, Truncated, TooManyRecords, Memory as NoMemory}
use Rattle.gr_record.specs.declared.fault.Fault.{Fault}
use Rattle.gr_record.specs.declared.fault.Fault.TheVariants.{Stream, SameGroup, OtherLaunch, MissingGroup, Shape, BadLine, NoEnd, LongStream, Read, Write, Memory, Threads}
use Rattle.gr_report.specs.Putting.{field}

-- a number between two words
abbrev pub between : List ℕ → ℕ → List ℕ → List ℕ
between before n after = field before (decimal n) ++ after

-- why a stream is refused
abbrev pub error_text : RecordError → List ℕ
error_text BadMagic = codes "bad magic"
error_text BadHeader = codes "bad header"
error_text BadKind = codes "bad kind"
error_text (BadField byte) = field (codes "bad field ") (decimal byte)
error_text BadOrder = codes "bad order"
error_text BadName = codes "bad name"
error_text UnknownItem = codes "unknown item"
error_text AfterEnd = codes "after end"
error_text Truncated = codes "truncated"
error_text TooManyRecords = codes "too many records"
error_text NoMemory = codes "out of memory"

-- why sizes are no shape
abbrev pub shape_text : ShapeError → List ℕ
shape_text NoGroups = codes "shape: no groups"
shape_text TooManyGroups = codes "shape: too many groups"
shape_text (BadItems group) = field (codes "shape: bad items in group ") (decimal group)
shape_text TooManyItems = codes "shape: too many items"

-- why a run failed
abbrev pub fault_text : Fault → List ℕ
fault_text (Stream place error) = between (codes "stream ") place (codes ": ") ++ error_text error
fault_text (SameGroup place) = between (codes "stream ") place (codes ": group given twice")
fault_text (OtherLaunch place) = between (codes "stream ") place (codes ": other launch")
fault_text (MissingGroup group) = between (codes "group ") group (codes " missing")
fault_text (Shape error) = shape_text error
fault_text (BadLine line) = between (codes "line ") line (codes ": bad line")
fault_text NoEnd = codes "no end"
fault_text (LongStream line) = between (codes "line ") line (codes ": too many records")
fault_text Read = codes "read fault"
fault_text Write = codes "write fault"
fault_text Memory = codes "out of memory"
fault_text Threads = codes "no thread"

-- the same as a line of the program
abbrev pub fault_line : Fault → List ℕ
fault_line fault = codes "gpurace: " ++ fault_text fault ++ codes "\n"
