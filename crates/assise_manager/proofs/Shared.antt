-- The lemmas that other crates import.
pub mod Sets
pub mod Nodes
pub mod Lawful
