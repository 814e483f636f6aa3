-- What follows from the definitions, each the contract of a function that does nothing.
use Rattle.std.specs.Prelude.{◌≡◌, ◌↔◌, ℕ, ◌<◌, List}
use Rattle.gr_model.specs.Types.{Space, ItemId, EventId, Word}
use Rattle.gr_model.specs.Shapes.{IsShape}
use Rattle.gr_model.specs.Streams.{Streams, AreAccepted, ArePrefixes, AreComplete, Grows}
use Rattle.gr_model.specs.HappensBefore.{BasePair, HappensBefore}
use Rattle.gr_model.specs.Waits.{Waits, Stage, IsGrounded}
use Rattle.gr_model.specs.LawfulOrders.{IsLawful, IsWholeOrder, IsAt, IsIn}
use Rattle.gr_model.specs.Races.{RacesInOrder, IsRacy}
use Rattle.gr_model.specs.Counts.{IsCount}
use Rattle.gr_model.specs.Hits.{SomePair}
use Rattle.gr_model.specs.Reports.{WholeReport, IsReportOf}

-- the lists of a shape's groups are accepted exactly where they may have come and are complete
abbrev pub AcceptedAreComplete : Type 0
AcceptedAreComplete = (s : Streams) → AreAccepted s ↔ (IsShape s.sizes × ArePrefixes s × AreComplete s)

-- in a lawful order a base pair goes forwards
abbrev pub PairsGoForwards : Type 0
PairsGoForwards = (s : Streams) (order : List EventId) (m : Space) (e f : EventId) (p q : ℕ) → IsLawful s order → IsAt order p e → IsAt order q f → BasePair s m e f → p < q

-- in a lawful order happens-before goes forwards, and what happens before an event of the order is in it
abbrev pub OrderGoesForwards : Type 0
OrderGoesForwards = (s : Streams) (order : List EventId) (m : Space) (e f : EventId) (p q : ℕ) → IsLawful s order → IsAt order p e → IsAt order q f → HappensBefore s m e f → p < q

abbrev pub OrderStaysWithin : Type 0
OrderStaysWithin = (s : Streams) (order : List EventId) (m : Space) (e f : EventId) → IsLawful s order → IsIn order f → HappensBefore s m e f → IsIn order e

-- each event of a lawful order is grounded
abbrev pub OrderIsGrounded : Type 0
OrderIsGrounded = (s : Streams) (order : List EventId) (e : EventId) → IsLawful s order → IsIn order e → IsGrounded s e

-- what a grounded event waits for, its stage, what happens before it and its counts stay where lists that are not complete grow
abbrev pub WaitsStay : Type 0
WaitsStay = (s t : Streams) (e d : EventId) → Grows s t → IsGrounded s e → Waits s e d ↔ Waits t e d

abbrev pub StagesStay : Type 0
StagesStay = (s t : Streams) (e : EventId) (n : ℕ) → Grows s t → IsGrounded s e → Stage s n e ↔ Stage t n e

abbrev pub OrderStays : Type 0
OrderStays = (s t : Streams) (m : Space) (e f : EventId) → Grows s t → IsGrounded s f → HappensBefore s m e f ↔ HappensBefore t m e f

abbrev pub CountsStay : Type 0
CountsStay = (s t : Streams) (m : Space) (f : EventId) (j : ItemId) (n : ℕ) → Grows s t → IsGrounded s f → IsCount s m f j n ↔ IsCount t m f j n

-- along a lawful order a word has an access that clashes with an earlier one exactly where it is racy within the order
abbrev pub HitsAreRaces : Type 0
HitsAreRaces = (s : Streams) (order : List EventId) (w : Word) → IsLawful s order → SomePair (RacesInOrder s w) order ↔ IsRacy s (IsIn order) w

-- and where the order has all grounded events, exactly where it is racy among these
abbrev pub WholeHitsAreRaces : Type 0
WholeHitsAreRaces = (s : Streams) (order : List EventId) (w : Word) → IsWholeOrder s order → SomePair (RacesInOrder s w) order ↔ IsRacy s (IsGrounded s) w

-- a word that is racy within a lawful order is racy among the grounded events of all lists to which these grow
abbrev pub RacesStay : Type 0
RacesStay = (s t : Streams) (order : List EventId) (w : Word) → Grows s t → IsLawful s order → IsRacy s (IsIn order) w → IsRacy t (IsGrounded t) w

-- lists have no two reports
abbrev pub ReportIsOne : Type 0
ReportIsOne = (s : Streams) (r q : WholeReport) → IsReportOf s r → IsReportOf s q → r ≡ q
