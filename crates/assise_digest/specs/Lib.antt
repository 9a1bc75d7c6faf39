pub mod Ahead
pub mod Pending
pub mod Region
pub mod Invariant
pub mod Postorder
pub mod Targets
