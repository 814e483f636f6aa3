-- Streams of a launch that come from an input each.
-- Source: docs/FORMATS.md, "Several streams".
use Rattle.std.specs.Prelude.{◌≡◌, ◌⊎◌, ℕ, List, [], ◌∷◌, ◌++◌, length, map, Option, Some, None, option_map, IfSome, Result, Ok, Err, Vec, ⊤, ◌==◌, if◌then◌else◌}
use Rattle.gr_model.specs.Prelude.{Streams}
use Rattle.gr_replay.specs.Types.{AfterEnd, Fault}
use Rattle.gr_record.specs.declared.fault.Fault.TheVariants as faults
use Rattle.gr_record.specs.Prelude.{Fails}
use Rattle.gr_intake.specs.Joined.{Flat, ◌>>=◌, stream_at}
use Rattle.gr_intake.specs.Launch.{IsLaunchOf, IsLaunchFault}

-- the bytes of vectors
abbrev pub inputs_of : {Z : Type 0} → List (Vec ℕ Z) → List (List ℕ)
inputs_of vs = map (λ v. v.items) vs

-- what all readers have left, where that of each is known
abbrev pub all_known : List (Option (List ℕ)) → Option (List (List ℕ))
all_known [] = Some []
all_known (None ∷ known) = None
all_known (Some bytes ∷ known) = option_map (λ inputs. bytes ∷ inputs) (all_known known)

-- each input is what its reader had left, where those bytes are known
abbrev pub AreRead : List (Option (List ℕ)) → List (List ℕ) → Type 0
AreRead [] [] = ⊤
AreRead (o ∷ known) (bytes ∷ inputs) = IfSome o (λ xs. bytes ≡ xs) × AreRead known inputs
AreRead [] (bytes ∷ inputs) = ⊥
AreRead (o ∷ known) [] = ⊥

-- the stream that the bytes are, after these streams
unfoldable pub only_stream_at : List Flat → List ℕ → Result Flat Fault
only_stream_at seen bytes = stream_at seen bytes >>= λ s. if length s.1 == 0 then Ok s.0 else Err (faults.Stream (length seen) AfterEnd)

-- these streams, and those that the inputs are
unfoldable pub each_at : List Flat → List (List ℕ) → Result (List Flat) Fault
each_at seen [] = Ok seen
each_at seen (bytes ∷ inputs) = only_stream_at seen bytes >>= λ f. each_at (seen ++ f ∷ []) inputs

abbrev pub each_of : List (List ℕ) → Result (List Flat) Fault
each_of inputs = each_at [] inputs

-- the inputs are streams of this launch
abbrev pub ReadsEach : List (List ℕ) → Streams → Type 0
ReadsEach inputs s = (seen : List Flat) × (each_of inputs ≡ Ok seen) × IsLaunchOf seen s

-- why inputs are no launch: the first fault from the left, or else why the streams are none; and faults from outside
abbrev pub IsEachFault : List (List ℕ) → Fault → Type 0
IsEachFault inputs f = Fails f (each_of inputs) ⊎ ((seen : List Flat) × (each_of inputs ≡ Ok seen) × IsLaunchFault seen f)
