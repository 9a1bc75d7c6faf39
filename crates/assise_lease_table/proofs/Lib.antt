mod Common
pub mod Shared
mod AskLoop
mod Lists
mod Room
