-- The lemmas that other crates import.
pub mod NumberedCalls
pub mod InodeMakers
pub mod FailureList
pub mod RecordKeeps
pub mod FailureKeeps
pub mod TracesKeep
pub mod LossReached
pub mod NumberBounds
