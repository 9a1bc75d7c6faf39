-- The lemmas that other crates import.
pub mod Borders
pub mod LogGroups
