pub mod RowLemmas
pub mod WindowLemmas
