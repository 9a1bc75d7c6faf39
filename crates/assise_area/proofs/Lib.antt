mod Common
pub mod Shared
mod WrittenValues
mod HotUse
mod ColdToHot
mod Cooled
mod AllPut
