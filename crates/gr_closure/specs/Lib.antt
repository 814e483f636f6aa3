pub mod Knowledge
pub mod KnowledgeLaws
pub mod Accesses
pub mod AccessesAlong
pub mod HitLaws
pub mod Types
