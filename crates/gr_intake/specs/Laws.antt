-- Laws on the streams in bytes.
use Rattle.std.specs.Prelude.{◌≡◌, ◌≢◌, ℕ, List, All, AllPairs, Ok}
use Rattle.gr_model.specs.Prelude.{IsAccepted}
use Rattle.gr_intake.specs.Joined.{Flat, joined_of}

-- lists that their groups may have, of groups that differ and of one launch
pub record AreStreams (seen : List Flat) : Type 0 where
  pub accepted : All (λ f. IsAccepted f.header.items f.events) seen
  pub groups : AllPairs (λ f g. f.header.group ≢ g.header.group) seen
  pub launch : AllPairs (λ f g. f.header.launch ≡ g.header.launch) seen

abbrev pub JoinedAreStreams : Type 0
JoinedAreStreams = (bytes : List ℕ) (seen : List Flat) → joined_of bytes ≡ Ok seen → AreStreams seen
