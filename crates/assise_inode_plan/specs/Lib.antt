pub mod Leased
pub mod Moving
pub mod Planning
pub mod Walking
