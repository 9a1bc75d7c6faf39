pub mod Delivery
pub mod DueCalls
pub mod Faults
