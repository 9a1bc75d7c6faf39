pub mod BothLevels
pub mod LeaseCalls
pub mod LeaseLevels
pub mod Levels
pub mod Trees
pub mod Turns
pub mod TwoLevels
