-- The lemmas that other crates import.
pub mod Traces
pub mod ReturnTrace
pub mod NodeLinks
pub mod CallTrace
