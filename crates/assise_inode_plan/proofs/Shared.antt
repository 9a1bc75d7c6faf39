-- The lemmas that other crates import.
pub mod WriteLeases
pub mod LackedLeases
