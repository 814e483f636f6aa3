-- The types, variants and constants that definitions and proofs cite most, passed on from one place. Declares nothing.
pub use Rattle.gr_model.specs.declared.class.Class.{Class}
pub use Rattle.gr_model.specs.declared.event.Event.{Event}
pub use Rattle.gr_model.specs.declared.event.EventId.{EventId}
pub use Rattle.gr_model.specs.declared.event.ItemId.{ItemId}
pub use Rattle.gr_model.specs.declared.event.Kind.{Kind}
pub use Rattle.gr_model.specs.declared.event.Kind.TheVariants.{Barrier, End, Load, Read, Rmw, Store, Write}
pub use Rattle.gr_model.specs.declared.event.Name.{Name}
pub use Rattle.gr_model.specs.declared.event.Scope.{Scope}
pub use Rattle.gr_model.specs.declared.event.Scope.TheVariants.{Device, Group}
pub use Rattle.gr_model.specs.declared.event.Sent.{Sent}
pub use Rattle.gr_model.specs.declared.event.Space.{Space}
pub use Rattle.gr_model.specs.declared.event.Space.TheVariants.{Global, Local}
pub use Rattle.gr_model.specs.declared.event.Word.{Word}
pub use Rattle.gr_model.specs.declared.limits.TheConstants.{FEW_GROUPS, FEW_ITEMS_OF_A_GROUP, MOST_GROUPS, MOST_ITEMS, MOST_ITEMS_OF_A_GROUP, MOST_NAMES, MOST_PLACES, MOST_QUEUES, MOST_RECORDS, MOST_WORKERS}
pub use Rattle.gr_model.specs.declared.report.DivergenceCause.{DivergenceCause}
