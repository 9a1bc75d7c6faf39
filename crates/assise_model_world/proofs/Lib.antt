mod Common
pub mod Shared
mod Lists
mod Between
mod InodeNumbers
mod JoinKeeps
