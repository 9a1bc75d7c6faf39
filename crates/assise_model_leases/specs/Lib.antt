pub mod Chances
pub mod Handing
pub mod Leases
