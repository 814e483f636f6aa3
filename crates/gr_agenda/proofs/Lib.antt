pub mod Frames
pub mod TakeFrames
pub mod Named
pub mod ListLemmas
pub mod KeptLemmas
pub mod UndivergedLemmas
pub mod AtOnceLemmas
pub mod ComingLemmas
