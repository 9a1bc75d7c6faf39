-- The lemmas that other crates import.
pub mod Lists
pub mod Pairs
