pub mod Answers
pub mod Cuts
pub mod LeaseMaps
pub mod Leases
pub mod Lists
pub mod Modes
pub mod Tables
