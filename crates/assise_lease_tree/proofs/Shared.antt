-- The lemmas that other crates import.
pub mod ClientHomes
pub mod Lookups
pub mod Steps
