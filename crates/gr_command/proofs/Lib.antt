pub mod AnswerLemmas
pub mod ShownLemmas
pub mod StreamLemmas
