-- The fault of a stream in an input of several, and which faults a call can have.
-- Source: docs/FORMATS.md, "Faults".
use Rattle.std.specs.Prelude.{◌≢◌, ℕ}
use Rattle.gr_record.specs.Types.{RecordError, Fault}
use Rattle.gr_record.specs.declared.error.RecordError.TheVariants as errors
use Rattle.gr_record.specs.declared.fault.Fault.TheVariants.{Stream, Read, Write, Memory, Threads}

-- the fault of the stream at a place; out of memory is no stream's fault
abbrev pub stream_fault : ℕ → RecordError → Fault
stream_fault place errors.Memory = Memory
stream_fault place error = Stream place error

-- ---- what a call does not do, it does not fail at

-- a fault of a call over values, which reads and writes nothing and starts no thread: one of the input, or of memory
abbrev pub IsOfValues : Fault → Type 0
IsOfValues f = (f ≢ Read) × (f ≢ Write) × (f ≢ Threads)

-- a fault of a call that reads, and writes nothing and starts no thread
abbrev pub IsOfReading : Fault → Type 0
IsOfReading f = (f ≢ Write) × (f ≢ Threads)
