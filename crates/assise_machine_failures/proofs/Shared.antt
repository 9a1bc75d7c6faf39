-- The lemmas that other crates import.
pub mod RefusedFailures
pub mod TakenDown
