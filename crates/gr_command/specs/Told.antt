-- Answers about a launch, and their text as it is written.
use Rattle.std.specs.Prelude.{◌↔◌, ℕ, Bool, List, Option, IfSome, IsTrue}
use Rattle.std.specs.Io.KnownBytes.{Appends}
use Rattle.gr_model.specs.Prelude.{AreAccepted, Streams}
use Rattle.gr_replay.specs.Each.{ReadsEach}
use Rattle.gr_report.specs.Putting.{AppendsPrefix}

-- the inputs, if they are known, are the streams of a launch that the model accepts; `text` is a text of it; and `found` says whether this is found in it
pub record IsTold (IsTextOf : Streams → List ℕ → Type 0) (IsFoundIn : Streams → Type 0) (known : Option (List (List ℕ))) (text : List ℕ) (found : Bool) : Type 0 where
  pub launch : Streams
  pub spelled : IfSome known (λ inputs. ReadsEach inputs launch)
  pub accepted : AreAccepted launch
  pub exact : IsTextOf launch text
  pub said : IsTrue found ↔ IsFoundIn launch

-- the inputs, if they are known, are the streams of a launch that the model accepts; a text of it is written whole; and `found` says whether this is found in it
pub record IsShown (IsTextOf : Streams → List ℕ → Type 0) (IsFoundIn : Streams → Type 0) (known : Option (List (List ℕ))) (found : Bool) (old new : Option (List ℕ)) : Type 0 where
  pub launch : Streams
  pub spelled : IfSome known (λ inputs. ReadsEach inputs launch)
  pub accepted : AreAccepted launch
  pub text : List ℕ
  pub exact : IsTextOf launch text
  pub written : Appends old new text
  pub said : IsTrue found ↔ IsFoundIn launch

-- a prefix of such a text was written
pub record ShowsPrefix (IsTextOf : Streams → List ℕ → Type 0) (known : Option (List (List ℕ))) (old new : Option (List ℕ)) : Type 0 where
  pub launch : Streams
  pub spelled : IfSome known (λ inputs. ReadsEach inputs launch)
  pub accepted : AreAccepted launch
  pub text : List ℕ
  pub exact : IsTextOf launch text
  pub prefix : AppendsPrefix old new text
