-- The types, variants and constants that definitions and proofs cite most, passed on from one place. Declares nothing.
pub use Rattle.gr_explain.specs.Types.{Event, EventId, Race, Word}
pub use Rattle.gr_model.specs.declared.event.Kind.{Kind}
pub use Rattle.gr_model.specs.declared.report.Divergence.{Divergence}
pub use Rattle.gr_places.specs.declared.places.Placed.{Placed}
pub use Rattle.gr_races.specs.declared.account.Account.{Account}
pub use Rattle.gr_races.specs.declared.between.Crossing.{Crossing}
pub use Rattle.gr_races.specs.declared.cause.Cause.{Cause}
pub use Rattle.gr_races.specs.declared.kinds.KindedRace.{KindedRace}
pub use Rattle.gr_races.specs.declared.kinds.Operation.{Operation}
pub use Rattle.gr_races.specs.declared.kinds.PlacedOperation.{PlacedOperation}
pub use Rattle.gr_races.specs.declared.kinds.RaceKind.{RaceKind}
pub use Rattle.gr_races.specs.declared.relaxing.Relaxation.{Relaxation}
pub use Rattle.gr_races.specs.declared.relaxing.Relaxation.TheVariants.{BothFlags, DeviceScope}
pub use Rattle.gr_races.specs.declared.runs.Run.{Run}
pub use Rattle.gr_timeline.specs.declared.details.Details.{Details}
