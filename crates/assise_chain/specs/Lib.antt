pub mod Acceptance
pub mod Chains
pub mod Lists
pub mod Messages
pub mod Passing
