pub mod Prefixes
pub mod Links
pub mod Kinds
pub mod TestLinks
