pub mod Calls
pub mod Data
pub mod Fault
pub mod Keywords
pub mod Line
pub mod Number
pub mod Script
pub mod Words
