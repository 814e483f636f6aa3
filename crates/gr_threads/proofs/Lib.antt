pub mod Givens
pub mod BatchLemmas
pub mod SenderLemmas
