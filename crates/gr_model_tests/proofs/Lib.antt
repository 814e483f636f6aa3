pub mod ExampleLemmas
pub mod States
