-- The lemmas that other crates import.
pub mod LookUps
pub mod Waiters
pub mod QuietLeases
pub mod GrantKeeps
pub mod AskKeeps
pub mod LeasesGo
pub mod ClientEnds
pub mod Possible
