pub mod Places
pub mod ClientValues
pub mod NodeValues
pub mod StateValues
pub mod Observed
pub mod Changes
pub mod Invariant
pub mod Whole
