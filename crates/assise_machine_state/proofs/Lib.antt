mod Common
pub mod Shared
mod Regions
mod StartObserved
mod Besides
mod SameObserved
mod RegroupedMarks
mod Prefixes
mod Unreplicated
