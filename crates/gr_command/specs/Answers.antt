-- The effects of a run of the program: its outcome, and what is on standard output and standard error.
-- Source: docs/OUTPUT.md, "The report", "Lines of faults" and "Statuses".
use Rattle.std.specs.Prelude.{◌≡◌, ◌≢◌, ◌⊎◌, ℕ, Bool, false, true, List, Option, Result, Ok, Err, IfSome, IfOk, IfErr, ⊤}
use Rattle.std.specs.Io.KnownBytes.{Appends, Keeps}
use Rattle.gr_model.specs.Prelude.{WholeReport, Streams}
use Rattle.gr_arguments.specs.Asked.{Asked, Inquiry, ask, perform, refuse}
use Rattle.gr_arguments.specs.declared.request.Query.{Query}
use Rattle.gr_arguments.specs.declared.request.Query.TheVariants.{Check, Explain, History, Races, WhyHeld}
use Rattle.gr_arguments.specs.declared.request.Query.TheVariants as query
use Rattle.gr_arguments.specs.declared.request.Task.{Task}
use Rattle.gr_arguments.specs.declared.request.Task.TheVariants.{Replay, Pack, Dump, Upgrade}
use Rattle.gr_text.specs.Prelude.{Fault, packed, dumped, upgraded, text_before_fault}
use Rattle.gr_record.specs.declared.fault.Fault.TheVariants.{Memory, Write}
use Rattle.gr_report.specs.ReportText.{report_text}
use Rattle.gr_timeline.specs.Racy.{IsRacyIn}
use Rattle.gr_places.specs.Checked.{CheckedSaid, IsCheckFileFault, IsCheckedAsKnown, is_accepted}
use Rattle.gr_timeline.specs.Why.{IsWhy}
use Rattle.gr_places.specs.SideLines.{place_number}
use Rattle.gr_replay.specs.Replays.{IsExact, IsExactOfEach, IsReplayFault}
use Rattle.gr_record.specs.Prelude.{Fails, IsOutside}
use Rattle.gr_text.specs.Writes.{Writes, WritesPrefix as WritesPrefixOf}
use Rattle.gr_places.specs.declared.sides_fault.SidesFault.TheVariants.{Run}
use Rattle.gr_places.specs.Opening.{HoldsOfAllFiles, IsSidesFault, Pair}
use Rattle.gr_races.specs.Shown.{HasRace}
use Rattle.gr_places.specs.Sides.{SidesSaid}
use Rattle.gr_places.specs.Files.{HoldsOfFiles, IsOpeningFault}
use Rattle.gr_command.specs.Told.{IsShown, ShowsPrefix}
use Rattle.gr_command.specs.Rendering.{Renders}
use Rattle.gr_command.specs.Shown.{AreRaces, IsExplanation, IsHeldIn, IsLine, IsHistoryOf, IsLongAnswer}
use Rattle.gr_report.specs.Putting.{AppendsPrefix}
use Rattle.gr_streams.specs.Streams.{IsRunFault}
use Rattle.gr_command.specs.declared.status.TheConstants.{NOTHING, USAGE}
use Rattle.gr_command.specs.Outcomes.{IsOutcome, Outcome, of_run}
use Rattle.gr_command.specs.Statuses.{check_status, race_status, IsReportStatus}

-- ---- reports

-- the text of a report; its JSON is a rendering
abbrev pub IsReportTextOf : Bool → WholeReport → List ℕ → Type 0
IsReportTextOf false r text = text ≡ report_text r
IsReportTextOf true r text = ⊤

-- a text of a report is written whole
abbrev pub WritesReport : Bool → WholeReport → Option (List ℕ) → Option (List ℕ) → Type 0
WritesReport json r old new = (text : List ℕ) × IsReportTextOf json r text × Appends old new text

-- or a prefix of it
abbrev pub WritesReportPrefix : Bool → WholeReport → Option (List ℕ) → Option (List ℕ) → Type 0
WritesReportPrefix json r old new = (text : List ℕ) × IsReportTextOf json r text × AppendsPrefix old new text

-- ---- tasks over standard input

module _ (input old new : Option (List ℕ)) (outcome : Outcome) where
  -- the report of the input, with its whole text or JSON written; or why there is none
  abbrev pub IsReport : Bool → WholeReport → Type 0
  IsReport json r = IfSome input (λ bytes. IsExact bytes r) × WritesReport json r old new

  abbrev pub IsAnswer : Bool → Type 0
  IsAnswer json =
      IsOutcome old new outcome (IsReport json) IsReportStatus
      (of_run (λ f. IfSome input (λ bytes. IsReplayFault bytes f))) (IfSome input (λ bytes. (r : WholeReport) × IsExact bytes r × WritesReportPrefix json r old new))

  -- the meaning of the input is written whole; or why it has none
  abbrev pub IsRewriting : (List ℕ → Result (List ℕ) Fault) → Type 0
  IsRewriting meaning =
      IsOutcome old new outcome (λ (done : Unit {0}). IfSome input (λ bytes. Writes (meaning bytes) old new)) (λ done ended. ended ≡ NOTHING)
      (of_run (λ f. f ≢ Write → IfSome input (λ bytes. Fails f (meaning bytes)))) (IfSome input (λ bytes. WritesPrefixOf (meaning bytes) old new))

  -- of a text with a fault, what comes before it in the input is written, or nothing if reading fails or memory runs out, or a prefix if the writer fails
  pub record IsPartlyDone (f : Fault) : Type 0 where
    pub why : f ≢ Write → IfSome input (λ bytes. Fails f (dumped bytes))
    pub partial : f ≢ Write → ¬ IsOutside f → IfSome input (λ bytes. Appends old new (text_before_fault bytes))
    pub untouched : IsOutside f → Keeps old new
    pub prefix : f ≡ Write → IfSome input (λ bytes. AppendsPrefix old new (text_before_fault bytes))

  -- the text of the input is written whole; or it has a fault
  pub record IsPartialDump : Type 0 where
    pub whole : IfOk outcome (λ status. (status ≡ NOTHING) × IfSome input (λ bytes. Writes (dumped bytes) old new))
    pub part : IfErr outcome (of_run IsPartlyDone)

  -- the effects of each task
  abbrev pub IsAnswerOf : Task → Type 0
  IsAnswerOf (Replay json) = IsAnswer json
  IsAnswerOf Pack = IsRewriting packed
  IsAnswerOf (Dump false) = IsRewriting dumped
  IsAnswerOf (Dump true) = IsPartialDump
  IsAnswerOf Upgrade = IsRewriting upgraded

-- ---- launches whose streams are in files, one each

-- the property of JSON if that is asked for, else that of the text
abbrev pub in_form : Bool → (SidesSaid → Streams → List ℕ → Type 0) → (SidesSaid → Streams → List ℕ → Type 0) → SidesSaid → Streams → List ℕ → Type 0
in_form true IsJson IsText = IsJson
in_form false IsJson IsText = IsText

-- one property of both forms
abbrev pub in_both : Bool → (SidesSaid → Streams → List ℕ → Type 0) → SidesSaid → Streams → List ℕ → Type 0
in_both json IsText = in_form json IsText IsText

-- the names of the side files
abbrev pub sides_of : Inquiry → Pair (List ℕ)
sides_of a = record { places = a.places; buffers = a.buffers }

-- the report of a run in threads over the files of these names
module _ {T X : Type 0} (remaining : T → Option (List ℕ)) (Gives : List ℕ → Result T X → Type 0) (names : List (List ℕ)) where
  -- it is the report of the bytes of the files, if these are known
  abbrev pub IsReportOfFiles : WholeReport → Type 0
  IsReportOfFiles r = HoldsOfFiles remaining Gives names (λ known. IfSome known (λ inputs. IsExactOfEach inputs r))

  -- why there is none: a file can't be opened, or the bytes of the files are not a launch, or a thread or memory is missing, or the writer failed
  abbrev pub IsFaultOfFiles : Fault → Type 0
  IsFaultOfFiles f = IsOpeningFault Gives names f ⊎ HoldsOfFiles remaining Gives names (λ known. IfSome known (λ inputs. IsRunFault inputs f))

  -- a prefix of its text, or of its JSON, was written
  abbrev pub WritesPrefixOfFiles : Bool → Option (List ℕ) → Option (List ℕ) → Type 0
  WritesPrefixOfFiles json old new =
      HoldsOfFiles remaining Gives names (λ known. IfSome known (λ inputs. (r : WholeReport) × IsExactOfEach inputs r × WritesReportPrefix json r old new))

module _ {T X : Type 0} (remaining : T → Option (List ℕ)) (Gives : List ℕ → Result T X → Type 0) (old new : Option (List ℕ)) where
  -- a rendering of the check of the files of these names is written whole, and `accepted` says whether they are accepted
  abbrev pub IsCheckedOfFiles : List (List ℕ) → Bool → Type 0
  IsCheckedOfFiles names accepted = HoldsOfFiles remaining Gives names (λ known. (c : CheckedSaid) × IsCheckedAsKnown names known c × (accepted ≡ is_accepted c) × (text : List ℕ) × Appends old new text)

  -- a prefix of the rendering was written
  abbrev pub ChecksPrefixOfFiles : List (List ℕ) → Type 0
  ChecksPrefixOfFiles names = HoldsOfFiles remaining Gives names (λ known. (c : CheckedSaid) × IsCheckedAsKnown names known c × (text : List ℕ) × AppendsPrefix old new text)

  -- the effects of an inquiry
  module _ (outcome : Outcome) (a : Inquiry) where
    -- a text that answers it, from its side files and the streams in its files, is written whole, and the status says whether what
    -- it looks for is found; or why there is no text
    abbrev pub IsAnswered : (SidesSaid → Streams → List ℕ → Type 0) → (Streams → Type 0) → Type 0
    IsAnswered IsTextOf IsFoundIn =
        IsOutcome old new outcome
        (λ found. HoldsOfAllFiles remaining Gives (sides_of a) a.files (λ known said. IsShown (IsTextOf said) IsFoundIn known found old new))
        (λ found ended. ended ≡ race_status found) (IsSidesFault remaining Gives (sides_of a) a.files)
        (HoldsOfAllFiles remaining Gives (sides_of a) a.files (λ known said. ShowsPrefix (IsTextOf said) known old new))

    -- the text of a check, and whether the files are accepted; or why there is none
    abbrev pub IsCheckOutcome : Type 0
    IsCheckOutcome =
        IsOutcome old new outcome
        (IsCheckedOfFiles a.files) (λ accepted ended. ended ≡ check_status accepted) (of_run (IsCheckFileFault remaining Gives a.files)) (ChecksPrefixOfFiles a.files)

    -- the report of a run in threads, and its whole text or JSON; or why there is none
    abbrev pub IsRunAnswer : Type 0
    IsRunAnswer =
        IsOutcome old new outcome
        (λ r. IsReportOfFiles remaining Gives a.files r × WritesReport a.json r old new) IsReportStatus
        (of_run (IsFaultOfFiles remaining Gives a.files)) (WritesPrefixOfFiles remaining Gives a.files a.json old new)

    -- the line of a word's least racing pair, or a rendering if it is JSON or the long form, and whether the word is racy; a rendering of
    -- the races, and whether there is one; of all accesses to a word, and whether it is racy; of why an event is held, and whether it is
    abbrev pub IsAnswerTo : Query → Type 0
    IsAnswerTo (Explain false w) = IsAnswered (in_form a.json (λ said s. Renders (IsExplanation s w)) (λ said. IsLine w)) (IsRacyIn w)
    IsAnswerTo (Explain true w) = IsAnswered (in_both a.json (λ said s. Renders (IsLongAnswer s (place_number said.places) w))) (IsRacyIn w)
    IsAnswerTo (Races most causes) = IsAnswered (in_both a.json (λ said s. Renders (AreRaces said causes s))) HasRace
    IsAnswerTo (History w) = IsAnswered (in_both a.json (λ said s. Renders (IsHistoryOf s w))) (IsRacyIn w)
    IsAnswerTo (query.Run config) = IsRunAnswer
    IsAnswerTo Check = IsCheckOutcome
    IsAnswerTo (WhyHeld e) = IsAnswered (in_both a.json (λ said s. Renders (IsWhy s e))) (IsHeldIn e)

-- ---- whatever words ask for

-- the words are reported as wrong, unless memory ran out first; nothing is written
abbrev pub IsUsageTold : Option (List ℕ) → Option (List ℕ) → Outcome → Type 0
IsUsageTold old new outcome = ((outcome ≡ Ok USAGE) ⊎ (outcome ≡ Err (Run Memory))) × Keeps old new

-- the effects of what words ask for, over this input, with files that are opened in this way; standard error is for wrong words alone
module _ {T X : Type 0} (remaining : T → Option (List ℕ)) (Gives : List ℕ → Result T X → Type 0) (input old new old_errors new_errors : Option (List ℕ)) (outcome : Outcome) where
  abbrev pub IsDone : Asked → Type 0
  IsDone (perform t) = IsAnswerOf input old new outcome t × Keeps old_errors new_errors
  IsDone (ask a) = IsAnswerTo remaining Gives old new outcome a a.query × Keeps old_errors new_errors
  IsDone (refuse why) = IsUsageTold old new outcome
