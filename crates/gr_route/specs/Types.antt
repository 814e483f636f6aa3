-- The types, variants and constants that definitions and proofs cite most, passed on from one place. Declares nothing.
pub use Rattle.gr_model.specs.declared.event.Event.{Event}
pub use Rattle.gr_model.specs.declared.event.Sent.{Sent}
pub use Rattle.gr_model.specs.declared.limits.TheConstants.{MOST_GROUPS, MOST_RECORDS}
pub use Rattle.gr_route.specs.declared.rule.Joined.{Joined}
pub use Rattle.gr_route.specs.declared.rule.SeatView.{SeatView}
pub use Rattle.gr_route.specs.declared.work.Work.{Work}
pub use Rattle.gr_route.specs.declared.work.Work.TheVariants.{Access, Stop}
