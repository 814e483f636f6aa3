-- The definitions of the model that clauses and specifications cite most, passed on from one place. Declares nothing.
pub use Rattle.gr_model.specs.Access.{acquires, event_word, inclusive, is_acquire_kind, is_release, is_release_kind, memory_of, modifies, releases, word_if_access, word_in}
pub use Rattle.gr_model.specs.Barriers.{IsConvergent, IsDivergent, StandsIn, Together, arrivals, is_barrier, mark_of, mark_of_kind}
pub use Rattle.gr_model.specs.ClassLaws.{ClassesTellModifies, ClassesTellScopes, ExemptionIsOfKinds}
pub use Rattle.gr_model.specs.Classes.{class_of, exempt}
pub use Rattle.gr_model.specs.Configs.{IsConfig, Settings, worker_number}
pub use Rattle.gr_model.specs.Counts.{IsCount, IsNumberOf, Sees}
pub use Rattle.gr_model.specs.Events.{IsEventOk, IsKindOk, IsNamingOk, end_of, is_end, is_end_kind}
pub use Rattle.gr_model.specs.Groups.{CanAdd, put, with_group}
pub use Rattle.gr_model.specs.HappensBefore.{BasePair, HappensBefore, IsInclusive, behind_barrier, by_pair, sequenced, synchronized, through}
pub use Rattle.gr_model.specs.Hits.{ClashesAt, IsHit, SomePair}
pub use Rattle.gr_model.specs.Instances.{AreMixed, Arrivals, HasArrived, HasDivergenceCause, IsConvergentOf, IsDivergentOf, IsMissing, IsPartial, IsWaitingOf, Mark, SitesDiffer, flags}
pub use Rattle.gr_model.specs.LawfulOrders.{IsAt, IsIn, IsLawful, IsWholeOrder}
pub use Rattle.gr_model.specs.NameLists.{AreAscending, AreNames, AreNamesWithin, IsNameInRange, IsNameWithin, NameBelow}
pub use Rattle.gr_model.specs.Names.{HasAcquireCause, HasItsReleases, HasName, IsAbsent, IsOfItsWord, IsOfOtherWord, Matches, MatchesBy, names_at, names_of, release_place}
pub use Rattle.gr_model.specs.RacePairs.{HasTags, IsRacePair, IsTurned, Pair, TagsRace}
pub use Rattle.gr_model.specs.Races.{IsRace, IsRacy, MayRace, RacesInOrder}
pub use Rattle.gr_model.specs.Reports.{AreRaces, DivergenceBelow, EventBelow, IsCut, IsDivergence, IsHeld, IsReportButRaces, IsReportOf, IsUnmatchedAcquire, IsUnmatchedEntry, Lists, UnmatchedBelow, WholeReport, WordBelow}
pub use Rattle.gr_model.specs.Shapes.{HasItem, IsPartOfShape, IsShape, IsShapeFault, items_of}
pub use Rattle.gr_model.specs.Streams.{AreAccepted, AreComplete, AreGood, ArePrefixes, Grows, IsAccepted, IsEvent, IsGoodAt, IsPrefix, Streams, event_at, events_of, is_complete, is_of, list_of, place_of, places_from, size_of, streams, trace_of, word_at}
pub use Rattle.gr_model.specs.Waits.{IsGrounded, IsPrevious, IsSettled, Stage, Waits, for_arrival, for_meeting, for_previous, for_release}
