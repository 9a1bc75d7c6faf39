pub mod Chances
pub mod Members
pub mod Returns
