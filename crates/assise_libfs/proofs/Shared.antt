-- The lemmas that other crates import.
pub mod Same
pub mod Tries
