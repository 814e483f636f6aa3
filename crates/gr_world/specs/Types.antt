-- The types, variants and constants that definitions and proofs cite most, passed on from one place. Declares nothing.
pub use Rattle.gr_clocks.specs.declared.access.Access.{Access}
pub use Rattle.gr_order.specs.Types.{Event, EventId, MOST_RECORDS, Word}
pub use Rattle.gr_model.specs.declared.event.Sent.{Sent}
pub use Rattle.gr_order.specs.declared.go_error.GoError.{GoError}
pub use Rattle.gr_world.specs.declared.step.Step.{Step}
pub use Rattle.gr_world.specs.declared.step.Step.TheVariants.{Close, Handle, Meet, Pass, Send, Take, WorkTake}
pub use Rattle.gr_world.specs.declared.step.StepError.{StepError}
pub use Rattle.gr_world.specs.declared.step.StepError.TheVariants.{BadStep, Busy, Empty, Full, Memory, NotOpen, NotReady}
