pub mod Borders
pub mod Groups
pub mod NumberedLog
pub mod Touches
