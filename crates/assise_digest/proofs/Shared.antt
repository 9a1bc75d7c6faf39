-- The lemmas that other crates import.
pub mod KeptStands
