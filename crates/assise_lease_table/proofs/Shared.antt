-- The lemmas that other crates import.
pub mod Elements
pub mod Compatibles
pub mod LeaseChanges
pub mod Retained
pub mod Unasked
