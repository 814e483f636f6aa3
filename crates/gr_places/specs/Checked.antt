-- The outcome of a check of files, and why there is none.
-- Source: docs/OUTPUT.md, "check".
use Rattle.std.specs.Prelude.{◌≡◌, ◌⊎◌, ℕ, Bool, true, false, List, Option, Result, IfSome}
use Rattle.gr_model.specs.Prelude.{AreAccepted, Streams}
use Rattle.gr_record.specs.Prelude.{IsOutside}
use Rattle.gr_places.specs.Types.{Fault, Counts}
use Rattle.gr_record.specs.declared.fault.Fault.TheVariants as faults
use Rattle.gr_places.specs.Files.{HoldsOfFiles, IsOpeningFault}
use Rattle.gr_replay.specs.Each.{IsEachFault, ReadsEach}
use Rattle.gr_places.specs.declared.checking.Checked.{Checked}
use Rattle.gr_places.specs.declared.checking.Checked.TheVariants as answers
use Rattle.gr_places.specs.Counts.{counts}
use Rattle.gr_places.specs.Places.{PlaceSaid, place_of, place_said}

-- the outcome of a check, with the names of files
pub data CheckedSaid : Type 0 where
  accepted : Counts → CheckedSaid
  refused : Fault → PlaceSaid → CheckedSaid

abbrev pub checked_said : Checked → CheckedSaid
checked_said (answers.Accepted n) = accepted n
checked_said (answers.Refused fault place) = refused fault (place_said place)

abbrev pub is_accepted : CheckedSaid → Bool
is_accepted (accepted n) = true
is_accepted (refused fault place) = false

-- the inputs are the streams of a launch that the model accepts, and these are its counts
pub record IsCounted (inputs : List (List ℕ)) (n : Counts) : Type 0 where
  pub launch : Streams
  pub spelled : ReadsEach inputs launch
  pub accepted : AreAccepted launch
  pub is : n ≡ counts launch

-- the inputs are not a launch: this is the first fault, it follows from the inputs alone, and this is what it is about
pub record IsRefused (names inputs : List (List ℕ)) (fault : Fault) (place : PlaceSaid) : Type 0 where
  pub first : IsEachFault inputs fault
  pub inside : ¬ IsOutside fault
  pub is : place ≡ place_of names inputs fault

-- the outcome for inputs that come from files of these names
abbrev pub IsChecked : List (List ℕ) → List (List ℕ) → CheckedSaid → Type 0
IsChecked names inputs (accepted n) = IsCounted inputs n
IsChecked names inputs (refused fault place) = IsRefused names inputs fault place

-- the same, of inputs that are these, if they are known
pub record IsCheckedAsKnown (names : List (List ℕ)) (known : Option (List (List ℕ))) (checked : CheckedSaid) : Type 0 where
  pub inputs : List (List ℕ)
  pub read : IfSome known (λ bytes. inputs ≡ bytes)
  pub exact : IsChecked names inputs checked

-- why a check of open files fails: reading fails, or memory runs out, or the writer fails
abbrev pub IsCheckFault : Fault → Type 0
IsCheckFault f = IsOutside f ⊎ (f ≡ faults.Write)

-- why a check of files of these names fails: one can't be opened, or all are open and it fails after that
abbrev pub IsCheckFileFault : {T E : Type 0} → (T → Option (List ℕ)) → (List ℕ → Result T E → Type 0) → List (List ℕ) → Fault → Type 0
IsCheckFileFault remaining Gives names f = IsOpeningFault Gives names f ⊎ HoldsOfFiles remaining Gives names (λ known. IsCheckFault f)
