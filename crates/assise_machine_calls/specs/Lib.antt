pub mod Answers
pub mod SyncCalls
pub mod Asked
pub mod Leasing
pub mod Releasing
