-- The types, variants and constants that definitions and proofs cite most, passed on from one place. Declares nothing.
pub use Rattle.gr_clocks.specs.declared.clock.TheConstants.{LARGEST_COUNT}
pub use Rattle.gr_model.specs.declared.event.Event.{Event}
pub use Rattle.gr_model.specs.declared.event.EventId.{EventId}
pub use Rattle.gr_model.specs.declared.event.ItemId.{ItemId}
pub use Rattle.gr_model.specs.declared.event.Name.{Name}
pub use Rattle.gr_model.specs.declared.event.Word.{Word}
pub use Rattle.gr_model.specs.declared.limits.TheConstants.{MOST_GROUPS, MOST_RECORDS}
pub use Rattle.gr_model.specs.declared.report.Divergence.{Divergence}
pub use Rattle.gr_model.specs.declared.report.DivergenceCause.{DivergenceCause}
pub use Rattle.gr_model.specs.declared.report.Unmatched.{Unmatched}
pub use Rattle.gr_order.specs.declared.go_error.GoError.TheVariants.{Memory, NotReady}
pub use Rattle.gr_order.specs.declared.steps.Ready.{Ready}
pub use Rattle.gr_order.specs.declared.steps.Ready.TheVariants.{Group, Item}
