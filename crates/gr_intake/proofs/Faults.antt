-- What is read after what, and its faults; and faults that no input determines.
use Rattle.gr_model.proofs.Common.{arith, ◌≡◌, ℕ, Result, Ok, Err, refl}
use Rattle.gr_intake.specs.Types.{RecordError, Fault}
use Rattle.gr_record.specs.declared.fault.Fault.TheVariants as faults
use Rattle.gr_record.specs.Prelude.{stream_fault, Fails}
use Rattle.gr_record.specs.WholeStreams as record_spec
use Rattle.gr_intake.specs.Joined.{◌>>=◌, at_place}

abbrev pub ok : {X E : Type 0} → X → Result X E
ok x = Ok x

pub same_ok : {X E : Type 0} (x y : X) → ok {E = E} x ≡ ok y → x ≡ y
same_ok x y e = cc

-- what is read at last, was read after what was read first
pub then_ok : {X Y : Type 0} (r : Result X Fault) (f : X → Result Y Fault) (y : Y) → (r >>= f) ≡ ok y → (x : X) × (r ≡ ok x) × (f x ≡ ok y)
then_ok (Ok x) f y is = (x, refl, is)
then_ok (Err e) f y is = absurd cc

pub at_place_ok : {X : Type 0} (place : ℕ) (r : Result X RecordError) (x : X) → at_place place r ≡ ok x → r ≡ ok x
at_place_ok place r x is = grind (arith, same_ok)

-- where memory suffices, the error in its place is that of the whole
pub fault_at-fails : {X Y : Type 0} (place : ℕ) (e : RecordError) (read : Result X RecordError) (whole : Result Y Fault) → record_spec.Fails e read → (read ≡ Err e → whole ≡ Err (faults.Stream place e)) → Fails (stream_fault place e) whole
fault_at-fails place e read whole h go = grind arith
