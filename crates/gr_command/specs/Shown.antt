-- What answers the questions about a launch, and the line of a word's least racing pair.
-- Source: docs/OUTPUT.md, "explain".
use Rattle.std.specs.Prelude.{◌≡◌, ◌↔◌, ℕ, Bool, IsTrue, List, Option, MatchOption, map}
use Rattle.gr_model.specs.Prelude.{IsRacy, Streams, IsGrounded, Pair, IsReportOf, WholeReport}
use Rattle.gr_explain.specs.LeastRaces.{IsLeastRace}
use Rattle.gr_report.specs.Whole.{whole_of}
use Rattle.gr_places.specs.SideLines.{place_number}
use Rattle.gr_places.specs.Sides.{SidesSaid}
use Rattle.gr_timeline.specs.Accesses.{AreAccesses}
use Rattle.gr_timeline.specs.Held.{IsHeldCount}
use Rattle.gr_timeline.specs.Racy.{IsRacyIn}
use Rattle.gr_timeline.specs.Waiting.{IsHeldEvent}
use Rattle.gr_races.specs.Types.{Details, EventId, Placed, Word}
use Rattle.gr_races.specs.declared.between.Crossing.{Crossing}
use Rattle.gr_races.specs.declared.by_kind.RacesByKind.{RacesByKind}
use Rattle.gr_races.specs.Arrivals.{came_to_first}
use Rattle.gr_races.specs.Listing.{Entry, entry_of}
use Rattle.gr_races.specs.Accounts.{AccountSaid, IsAccountOf}
use Rattle.gr_races.specs.Shown.{AreListedRaces}
use Rattle.gr_timeline.specs.declared.word_history.HistoryAnswer.{HistoryAnswer}
use Rattle.gr_timeline.specs.Histories.{IsHistory, Line, lines_of}
use Rattle.gr_plain.specs.Explanations.{explanation_line}

-- the least racing pair of the word, or none exactly where the word is not racy
abbrev pub IsExplanation : Streams → Word → Option Pair → Type 0
IsExplanation s w pair = MatchOption pair (¬ IsRacy s (IsGrounded s) w) (λ p. IsLeastRace s w p)

-- the line of the word's least racing pair, or that it has none
pub record IsLine (w : Word) (s : Streams) (line : List ℕ) : Type 0 where
  pub pair : Option Pair
  pub least : IsExplanation s w pair
  pub is : line ≡ explanation_line w pair

-- the account of the word's least racing pair and no number; or, if the word is not racy, how many accesses to it are held
abbrev pub IsLongAnswer : Streams → (Placed → Option ℕ) → Word → Option AccountSaid × ℕ → Type 0
IsLongAnswer s numbers w a = IsAccountOf s numbers w a.0 × MatchOption a.0 (IsHeldCount s w a.1) (λ account. a.1 ≡ 0)

-- the event is held in a launch
abbrev pub IsHeldIn : EventId → Streams → Type 0
IsHeldIn e s = IsHeldEvent s e

-- ---- races by kinds

-- the kinds of races, how many races there are, the report, and what the items brought to its first divergent barrier
pub record RacesSaid : Type 0 where
  pub by_kind : List Entry
  pub races : ℕ
  pub report : WholeReport
  pub came : List (Option Crossing)

abbrev pub races_said : {Z : Type 0} → RacesByKind Z → RacesSaid
races_said r = record { by_kind = map entry_of r.kinds.items; races = r.races; report = whole_of r.report; came = r.came.items }

-- the races of a launch, with what side files say and with causes if they are asked for, and its report
pub record AreRaces (said : SidesSaid) (causes : Bool) (s : Streams) (r : RacesSaid) : Type 0 where
  pub listed : AreListedRaces s (place_number said.places) causes r.by_kind r.races
  pub report : IsReportOf s r.report
  pub came : r.came ≡ came_to_first s r.report.divergences

-- ---- the history of a word

-- the accesses to a word with their details, how many others are held, and whether the word is racy
pub record HistorySaid : Type 0 where
  pub known : List (EventId × Details)
  pub lines : List Line
  pub held : ℕ
  pub racy : Bool

abbrev pub history_said : {Z : Type 0} → HistoryAnswer Z → HistorySaid
history_said t = record { known = t.known.entries; lines = lines_of t.entries.items; held = t.held; racy = t.racy }

-- the history of a word of a launch
pub record IsHistoryOf (s : Streams) (w : Word) (h : HistorySaid) : Type 0 where
  pub known : AreAccesses s w h.known
  pub history : IsHistory s w h.lines
  pub held : IsHeldCount s w h.held
  pub racy : IsTrue h.racy ↔ IsRacyIn w s
