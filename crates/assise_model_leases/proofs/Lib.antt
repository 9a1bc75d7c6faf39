mod Common
pub mod Shared
mod CutsCover
