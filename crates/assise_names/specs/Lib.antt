pub mod Held
pub mod Name
pub mod Path
pub mod Reply
pub mod Text
pub mod Texts
