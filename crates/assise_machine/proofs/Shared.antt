-- The lemmas that other crates import.
pub mod EventLists
pub mod Few
pub mod Results
pub mod Replicated
