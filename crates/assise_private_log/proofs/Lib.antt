mod Common
pub mod Shared
mod Prefixes
mod TouchedNumbers
