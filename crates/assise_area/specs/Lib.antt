pub mod Hot
pub mod Parts
