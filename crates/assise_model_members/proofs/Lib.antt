mod Common
pub mod Shared
mod Written
