-- The tests of a record, in their order.
use Rattle.gr_model.proofs.Common.{◌≡◌, ℕ, Bool, true, false, cond, List, Option, Some, None, Result, Ok, Err, arith, ◌≢◌}
use Rattle.gr_record.specs.Prelude.{Event, Name, RecordError, unless_bad, unless_bad_names, event_at, header_at, Header}
use Rattle.gr_record.specs.declared.error.RecordError.TheVariants as errors

-- what a record says whose kind, field, order, names and item are judged so
abbrev pub judged_by : Bool → Option ℕ → Bool → Option (List Name) → Bool → (List Name → Event) → Result Event RecordError
judged_by kind field order names item made =
    cond kind (Err errors.BadKind) (unless_bad field (cond order (Err errors.BadOrder) (unless_bad_names names (λ n. cond item (Err errors.UnknownItem) (Ok (made n))))))

-- a record that is read has passed each test
pub passed : (kind : Bool) (field : Option ℕ) (order naming : Bool) (names : List Name) (item : Bool) (made : List Name → Event) (e : Event) → judged_by kind field order (cond naming (Some names) None) item made ≡ Ok e
    → (kind ≡ false) × (field ≡ None) × (order ≡ false) × (naming ≡ true) × (item ≡ false) × (made names ≡ e)
passed kind field order naming names item made e is = grind arith

-- ---- reading never runs out of memory

pub event_apart : (h : Header) (bytes : List ℕ) → event_at h bytes ≢ Err errors.Memory
unfolding event_at
event_apart h bytes e = grind arith

pub header_apart : (bytes : List ℕ) → header_at bytes ≢ Err errors.Memory
unfolding header_at
header_apart bytes e = grind arith
