mod Common
pub mod Shared
mod AscendingSets
mod Places
mod Lasts
