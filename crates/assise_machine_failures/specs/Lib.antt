pub mod Answers
pub mod Copies
pub mod Failures
pub mod Listing
