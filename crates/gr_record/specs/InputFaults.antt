-- What a call returns besides what its input means.
-- Source: docs/FORMATS.md, "Faults".
use Rattle.std.specs.Prelude.{◌≡◌, Result, Ok, Err}
use Rattle.gr_record.specs.Types.{Fault}
use Rattle.gr_record.specs.declared.fault.Fault.TheVariants as faults

-- a fault of reading that no input determines: of memory or the reader
abbrev pub IsOutside : Fault → Type 0
IsOutside faults.Memory = Unit {0}
IsOutside faults.Read = Unit {0}
IsOutside _ = ⊥

-- a fault is what the input means, unless it comes from outside
abbrev pub Fails : {Y : Type 0} → Fault → Result Y Fault → Type 0
Fails faults.Memory meaning = Unit {0}
Fails faults.Read meaning = Unit {0}
Fails f meaning = meaning ≡ Err f

-- what a call returned, seen by view, is what the input means, faults from outside aside
abbrev pub Gives : {X Y : Type 0} → (X → Y) → Result X Fault → Result Y Fault → Type 0
Gives view (Ok x) meaning = meaning ≡ Ok (view x)
Gives view (Err f) meaning = Fails f meaning
