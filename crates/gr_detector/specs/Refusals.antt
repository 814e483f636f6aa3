-- What `finish` gives back if it fails.
-- Source: docs/QUEUES.md, "Workers and queues".
use Rattle.std.specs.Prelude.{◌≡◌, List, length}
use Rattle.gr_route.specs.IntakeSeats.{Seat}
use Rattle.gr_detector.specs.declared.error.FinishError.{FinishError}
use Rattle.gr_detector.specs.declared.error.FinishError.TheVariants.{Receipts, Memory}
use Rattle.gr_detector.specs.Runs.{IsEachOnce, Run}

-- the run and the receipts are given back only if some group does not have exactly one receipt
abbrev pub IsHandedBack : {A : Type 0} → Run → List Seat → FinishError A → Type 0
IsHandedBack run receipts (Receipts r v) = (r ≡ run) × (v.items ≡ receipts) × ¬ IsEachOnce (length run.sizes) receipts
IsHandedBack run receipts Memory = IsEachOnce (length run.sizes) receipts
