-- The lemmas that other crates import.
pub mod Equality
pub mod GroupRest
pub mod GroupMarks
pub mod Records
pub mod Unique
pub mod Versions
pub mod WholeGroups
