-- What follows of what is read of bytes and of inputs: the launch, and its report.
-- Source: docs/FORMATS.md, "Stream" and "Several streams", and docs/MODEL.md, "The report".
use Rattle.std.specs.Prelude.{◌≡◌, ◌⊎◌, ◌↔◌, ℕ, List, [], ◌∷◌, map, All, Ok, ⊤}
use Rattle.std.specs.List.{flat_map}
use Rattle.std.specs.List.Sorted.{IsPermutation}
use Rattle.gr_model.specs.Prelude.{WholeReport, Streams}
use Rattle.gr_record.specs.Prelude.{AreBytes, events_of}
use Rattle.gr_text.specs.Prelude.{WholeStream, upgraded, IsWhole, bytes_of}
use Rattle.gr_intake.specs.Joined.{Flat, joined_of}
use Rattle.gr_intake.specs.Launch.{Reads}
use Rattle.gr_replay.specs.Each.{ReadsEach, only_stream_at}
use Rattle.gr_replay.specs.Replays.{IsExact, IsExactOfEach}

-- ---- one launch

-- bytes are the streams of one launch at most, and so are inputs
abbrev pub BytesAreOneLaunch : Type 0
BytesAreOneLaunch = (bytes : List ℕ) (s t : Streams) → Reads bytes s → Reads bytes t → s ≡ t

abbrev pub InputsAreOneLaunch : Type 0
InputsAreOneLaunch = (inputs : List (List ℕ)) (s t : Streams) → ReadsEach inputs s → ReadsEach inputs t → s ≡ t

-- so they have one report at most
abbrev pub BytesHaveOneReport : Type 0
BytesHaveOneReport = (bytes : List ℕ) (r q : WholeReport) → IsExact bytes r → IsExact bytes q → r ≡ q

abbrev pub InputsHaveOneReport : Type 0
InputsHaveOneReport = (inputs : List (List ℕ)) (r q : WholeReport) → IsExactOfEach inputs r → IsExactOfEach inputs q → r ≡ q

-- ---- inputs one after another

-- the bytes are one stream
abbrev pub IsOneStream : List ℕ → Type 0
IsOneStream bytes = (f : Flat) × (only_stream_at [] bytes ≡ Ok f)

-- the bytes of the inputs, one after another
abbrev pub joined : List (List ℕ) → List ℕ
joined inputs = flat_map (λ bytes. bytes) inputs

-- inputs are streams of a launch exactly where each is one stream, and one after another they are the streams of this launch
abbrev pub InputsAreJoined : Type 0
InputsAreJoined = (inputs : List (List ℕ)) (s : Streams) → ReadsEach inputs s ↔ (All IsOneStream inputs × Reads (joined inputs) s)

-- and bytes that are the streams of a launch are such inputs, one after another
abbrev pub BytesAreInputs : Type 0
BytesAreInputs = (bytes : List ℕ) (s : Streams) → AreBytes bytes → Reads bytes s → (inputs : List (List ℕ)) × (bytes ≡ joined inputs) × ReadsEach inputs s

-- so inputs have a report exactly where each is one stream and their bytes, one after another, have it
abbrev pub JoinedReportIsSame : Type 0
JoinedReportIsSame = (inputs : List (List ℕ)) (r : WholeReport) → IsExactOfEach inputs r ↔ (All IsOneStream inputs × IsExact (joined inputs) r)

-- and two reports, of the inputs and of these bytes, are equal
abbrev pub JoinedReportIsEqual : Type 0
JoinedReportIsEqual = (inputs : List (List ℕ)) (r q : WholeReport) → IsExactOfEach inputs r → IsExact (joined inputs) q → r ≡ q

-- ---- inputs in another order

-- inputs are the streams of a launch in whatever order
abbrev pub InputsInAnyOrder : Type 0
InputsInAnyOrder = (inputs others : List (List ℕ)) (s : Streams) → IsPermutation inputs others → ReadsEach inputs s → ReadsEach others s

-- and have its report
abbrev pub ReportInAnyOrder : Type 0
ReportInAnyOrder = (inputs others : List (List ℕ)) (r : WholeReport) → IsPermutation inputs others → IsExactOfEach inputs r → IsExactOfEach others r

-- ---- the same streams with other sites

-- a stream without the sites of its records
abbrev pub siteless : WholeStream → Flat
siteless s = record { header = s.header; events = events_of s.records }

-- streams that differ in their sites alone are read as the same, or refused for the same
abbrev pub SitesAreNotRead : Type 0
SitesAreNotRead = (ss ts : List WholeStream) → All IsWhole ss → All IsWhole ts → map siteless ss ≡ map siteless ts → joined_of (bytes_of ss) ≡ joined_of (bytes_of ts)

-- and have the same report
abbrev pub SitesAreNotJudged : Type 0
SitesAreNotJudged = (ss ts : List WholeStream) (r : WholeReport) → All IsWhole ss → All IsWhole ts → map siteless ss ≡ map siteless ts → IsExact (bytes_of ss) r ↔ IsExact (bytes_of ts) r

-- ---- the same streams in version 2

-- some inputs were upgraded, and the others are as they were
abbrev pub AreUpgraded : List (List ℕ) → List (List ℕ) → Type 0
AreUpgraded [] [] = ⊤
AreUpgraded (bytes ∷ inputs) (out ∷ outs) = ((out ≡ bytes) ⊎ (AreBytes bytes × (upgraded bytes ≡ Ok out))) × AreUpgraded inputs outs
AreUpgraded [] (out ∷ outs) = ⊥
AreUpgraded (bytes ∷ inputs) [] = ⊥

-- bytes and their upgrade are the streams of the same launch, and so are inputs where some are upgraded
abbrev pub UpgradedAreOneLaunch : Type 0
UpgradedAreOneLaunch = (bytes out : List ℕ) (s : Streams) → AreBytes bytes → upgraded bytes ≡ Ok out → Reads bytes s ↔ Reads out s

abbrev pub UpgradedInputsAreOneLaunch : Type 0
UpgradedInputsAreOneLaunch = (inputs outs : List (List ℕ)) (s : Streams) → AreUpgraded inputs outs → ReadsEach inputs s ↔ ReadsEach outs s

-- so they have the same report
abbrev pub UpgradedHaveOneReport : Type 0
UpgradedHaveOneReport = (bytes out : List ℕ) (r : WholeReport) → AreBytes bytes → upgraded bytes ≡ Ok out → IsExact bytes r ↔ IsExact out r

abbrev pub UpgradedInputsHaveOneReport : Type 0
UpgradedInputsHaveOneReport = (inputs outs : List (List ℕ)) (r : WholeReport) → AreUpgraded inputs outs → IsExactOfEach inputs r ↔ IsExactOfEach outs r
