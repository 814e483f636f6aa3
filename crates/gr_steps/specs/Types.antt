-- The types, variants and constants that definitions and proofs cite most, passed on from one place. Declares nothing.
pub use Rattle.gr_model.specs.declared.event.Event.{Event}
pub use Rattle.gr_model.specs.declared.event.EventId.{EventId}
pub use Rattle.gr_model.specs.declared.event.ItemId.{ItemId}
pub use Rattle.gr_model.specs.declared.event.Name.{Name}
pub use Rattle.gr_model.specs.declared.event.Word.{Word}
