-- The types, variants and constants that definitions and proofs cite most, passed on from one place. Declares nothing.
pub use Rattle.gr_closure.specs.Types.{Access, EventId, ItemId, Word}
pub use Rattle.gr_explain.specs.declared.judging.Judgement.{Judgement}
pub use Rattle.gr_explain.specs.declared.tag_pairs.TaggedRace.{TaggedRace}
pub use Rattle.gr_model.specs.declared.class.Class.{Class}
pub use Rattle.gr_model.specs.declared.event.Event.{Event}
pub use Rattle.gr_model.specs.declared.race.Race.{Race}
