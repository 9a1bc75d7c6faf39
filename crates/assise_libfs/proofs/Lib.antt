mod Common
pub mod Shared
mod Faults
mod Openings
mod Refused
mod Sights
mod TurnsAdd
